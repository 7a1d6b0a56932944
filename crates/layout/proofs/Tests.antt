-- The tests of code are those of the definitions, which stay folded there.
use Rattle.std.specs.Prelude.{◌≡◌, refl, Bool, not, ◌&&◌, ◌||◌, ℕ, eqb, leb, ltb}
use Rattle.laws.specs.Tests.{◌and◌, ◌or◌, neg, is, less, upto}

pub both_are : (a b : Bool) → (a && b) ≡ (a and b)
unfolding ◌and◌
both_are a b = refl

pub either_is : (a b : Bool) → (a || b) ≡ (a or b)
unfolding ◌or◌
either_is a b = refl

pub not_is : (a : Bool) → not a ≡ neg a
unfolding neg
not_is a = refl

pub equal_is : (a b : ℕ) → eqb a b ≡ is a b
unfolding is
equal_is a b = refl

pub most_is : (a b : ℕ) → leb a b ≡ upto a b
unfolding upto
most_is a b = refl

pub below_is : (a b : ℕ) → ltb a b ≡ less a b
unfolding less
below_is a b = refl

pub ruleset tests = (both_are, either_is, not_is, equal_is, most_is, below_is)

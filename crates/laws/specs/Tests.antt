-- Tests: functions to Bool that stay folded until a proof names them, so that a goal shows them by name.
pub mod Laws
use Rattle.laws.specs.Base.{Bool, true, not, ℕ, zero, suc}
use Rattle.std.specs.Prelude.{eqb, leb, ltb, ◌&&◌, ◌||◌}

infixl 35 ◌and◌
infixl 30 ◌or◌
unfoldable pub ◌and◌ : Bool → Bool → Bool
a and b = a && b

unfoldable pub ◌or◌ : Bool → Bool → Bool
a or b = a || b

unfoldable pub neg : Bool → Bool
neg a = not a

-- a is b
unfoldable pub is : ℕ → ℕ → Bool
is a b = eqb a b

-- a is less than b
unfoldable pub less : ℕ → ℕ → Bool
less a b = ltb a b

-- a is at most b
unfoldable pub upto : ℕ → ℕ → Bool
upto a b = leb a b

-- p holds of each number below n
unfoldable pub below : (ℕ → Bool) → ℕ → Bool
below p zero = true
below p (suc n) = below p n and p n

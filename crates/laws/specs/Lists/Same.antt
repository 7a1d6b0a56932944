-- Two lists of numbers that are the same.
use Rattle.std.specs.Prelude.{◌≡◌, ◌∷◌}
use Rattle.laws.specs.Base.{refl, sym, ap, ap₂, ◌∙◌, true, false, false≢true, List, [], ℕ, zero, suc, length, take, drop}
use Rattle.laws.specs.Tests.{◌and◌, is}
use Rattle.laws.specs.Tests.Laws.{split, clash, and_left, and_right, and_both, and_assoc, is_yes, is_same}
use Rattle.laws.specs.Lists.{same}

pub same_yes : (a b : List ℕ) → same a b ≡ true → a ≡ b
unfolding same
same_yes [] [] e = refl
same_yes [] (y ∷ ys) e = absurd (false≢true e)
same_yes (x ∷ xs) [] e = absurd (false≢true e)
same_yes (x ∷ xs) (y ∷ ys) e = ap₂ ◌∷◌ (is_yes x y (and_left _ _ e)) (same_yes xs ys (and_right _ _ e))

pub same_refl : (a : List ℕ) → same a a ≡ true
unfolding same
same_refl [] = refl
same_refl (x ∷ xs) = and_both _ _ (is_same x) (same_refl xs)

pub same_equal : (a b : List ℕ) → a ≡ b → same a b ≡ true
same_equal a b e = rw e (same_refl b)

pub same_other : (a b : List ℕ) → (a ≡ b → ⊥) → same a b ≡ false
same_other a b f = split (same a b) (λ t. absurd (f (same_yes a b t))) (λ t. t)

pub same_no : (a b : List ℕ) → same a b ≡ false → a ≡ b → ⊥
same_no a b e q = clash (same_equal a b q) e

pub same_swap : (a b : List ℕ) → same a b ≡ same b a
same_swap a b = split (same b a) (λ t. same_equal a b (sym (same_yes b a t)) ∙ sym t) (λ t. same_other a b (λ q. same_no b a t (sym q)) ∙ sym t)

pub same_length_other : (a b : List ℕ) → (length a ≡ length b → ⊥) → same a b ≡ false
same_length_other a b f = same_other a b (λ e. f (ap length e))

-- the first n and the rest
pub same_split : (n : ℕ) (a b : List ℕ) → same a b ≡ (same (take n a) (take n b) and same (drop n a) (drop n b))
unfolding same ◌and◌
same_split zero a b = refl
same_split (suc n) [] [] = refl
same_split (suc n) [] (y ∷ ys) = refl
same_split (suc n) (x ∷ xs) [] = refl
same_split (suc n) (x ∷ xs) (y ∷ ys) = rw (same_split n xs ys) (sym (and_assoc (is x y) (same (take n xs) (take n ys)) (same (drop n xs) (drop n ys))))

-- Lists searched, sieved and compared by tests.
use Rattle.std.specs.Prelude.{◌∷◌, ◌+◌}
use Rattle.laws.specs.Base.{Bool, true, false, cond, Option, none, some, List, [], ℕ, zero, suc}
use Rattle.laws.specs.Tests.{◌and◌, ◌or◌, neg, is}
pub mod Same
pub mod Each
pub mod Search
pub mod Apart
pub mod Count
pub mod Keep
pub mod Both
pub mod Once

-- two lists of numbers are the same
unfoldable pub same : List ℕ → List ℕ → Bool
same [] [] = true
same [] (y ∷ ys) = false
same (x ∷ xs) [] = false
same (x ∷ xs) (y ∷ ys) = is x y and same xs ys

-- a place counted from one element further on; 0, no place, stays 0
unfoldable pub further : ℕ → ℕ
further zero = zero
further (suc n) = suc (suc n)

module _ {A : Type 0} where
  -- the first that passes
  unfoldable pub find : (A → Bool) → List A → Option A
  find p [] = none
  find p (x ∷ xs) = cond (p x) (some x) (find p xs)

  -- its place, counted from 1; 0 where none passes
  unfoldable pub place : (A → Bool) → List A → ℕ
  place p [] = zero
  place p (x ∷ xs) = cond (p x) (suc zero) (further (place p xs))

  -- the element at a place, counted from 1
  unfoldable pub nth : List A → ℕ → Option A
  nth [] k = none
  nth (x ∷ xs) zero = none
  nth (x ∷ xs) (suc zero) = some x
  nth (x ∷ xs) (suc (suc k)) = nth xs (suc k)

  -- some element passes
  unfoldable pub has : (A → Bool) → List A → Bool
  has p [] = false
  has p (x ∷ xs) = p x or has p xs

  -- all elements pass
  unfoldable pub every : (A → Bool) → List A → Bool
  every p [] = true
  every p (x ∷ xs) = p x and every p xs

  -- no element clashes with a later one
  unfoldable pub apart : (A → A → Bool) → List A → Bool
  apart clash [] = true
  apart clash (x ∷ xs) = every (λ y. neg (clash x y)) xs and apart clash xs

  -- how many pass
  unfoldable pub count : (A → Bool) → List A → ℕ
  count p [] = 0
  count p (x ∷ xs) = cond (p x) (suc (count p xs)) (count p xs)

  -- those that pass
  unfoldable pub keep : (A → Bool) → List A → List A
  keep p [] = []
  keep p (x ∷ xs) = cond (p x) (x ∷ keep p xs) (keep p xs)

  -- all before the first that passes
  unfoldable pub until : (A → Bool) → List A → List A
  until p [] = []
  until p (x ∷ xs) = cond (p x) [] (x ∷ until p xs)

  -- the sum of what each gives
  unfoldable pub total : (A → ℕ) → List A → ℕ
  total g [] = 0
  total g (x ∷ xs) = g x + total g xs

  -- what g gives of an element that was found
  unfoldable pub of_found : (A → ℕ) → Option A → ℕ
  of_found g none = 0
  of_found g (some x) = g x

  -- a property of each
  abbrev pub All : (A → Type 0) → List A → Type 0
  All P [] = Unit {0}
  All P (x ∷ xs) = P x × All P xs

-- each of some lists of numbers once, where it stands first
unfoldable pub once : List (List ℕ) → List (List ℕ)
once [] = []
once (x ∷ xs) = x ∷ keep (λ y. neg (same x y)) (once xs)

-- Answers in order. An answer has a number, and is a refusal where that is not 0; the first refusal wins.
pub mod Laws
use Rattle.std.specs.Prelude.{◌+◌}
use Rattle.laws.specs.Base.{cond, ℕ, zero, suc}
use Rattle.laws.specs.Tests.{is}

module _ {A : Type 0} (number : A → ℕ) where
  -- the first answer if it is a refusal, else the second
  unfoldable pub first : A → A → A
  first a b = cond (is (number a) 0) b a

  -- the first refusal among those at k, k + 1 and on, f of them; else fine
  unfoldable pub along : A → (ℕ → A) → ℕ → ℕ → A
  along fine at zero k = fine
  along fine at (suc f) k = first (at k) (along fine at f (k + 1))

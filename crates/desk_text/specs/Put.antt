-- Text put into a buffer piece by piece. What would fall past the buffer's end is left out.
pub mod Laws
use Rattle.std.specs.Prelude.{◌≡◌, cond, ℕ, ◌+◌, ◌≤◌, length}
use Rattle.laws.specs.Tests.{less}
use Rattle.laws.specs.Bytes.{written}
use Rattle.paper.specs.Layout.{Bytes}

-- a place, or the end of a buffer of room bytes where it lies before it
unfoldable pub within : ℕ → ℕ → ℕ
within place room = cond (less room place) room place

-- the buffer was x; it is y, which has p from `at` on, and r is the place behind p
pub record Put (at : ℕ) (p : Bytes) (r : ℕ) (x y : Bytes) : Type 0 where
  pub size : r ≡ within (at + length p) (length x)
  pub text : y ≡ written at p x
  pub fits : r ≤ length y

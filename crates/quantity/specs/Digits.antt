-- How many digits a number has, at most k + 1.
use Rattle.std.specs.Prelude.{cond, ℕ, zero, suc, ◌+◌, ◌/◌}
use Rattle.laws.specs.Tests.{less}

unfoldable pub places_by : ℕ → ℕ → ℕ
places_by zero x = 1
places_by (suc k) x = cond (less x 10) 1 (1 + places_by k (x / 10))

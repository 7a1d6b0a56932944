-- One test of byte 104 for both layouts, so that one body of code serves both.
use Rattle.std.specs.Prelude.{Bool, cond, ℕ}
use Rattle.paper.specs.Sound.{differing_allowed}
use Rattle.paper.specs.Conversion.{state_allowed}

-- in the old layout, or in the one that stands
unfoldable pub allowed_in : (old : Bool) → ℕ → ℕ → Bool
allowed_in old = cond old state_allowed differing_allowed

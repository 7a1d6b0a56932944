-- A position at which there are finals, by its index; or why there are none.
use Rattle.std.specs.Prelude.{cond, ℕ, ◌-◌, Result, Ok, Err}
use Rattle.laws.specs.Tests.{◌or◌, neg, is, less}
use Rattle.paper.specs.Layout.{Block, n_of}
use Rattle.paper.specs.Rules.{closed}
use Rattle.readings.specs.declared.finals.NoFinals.{NoFinals}
use Rattle.readings.specs.declared.finals.NoFinals.TheVariants.{NoPosition, StillOpen}

-- "24 position 0 or above n, 25 not closed"
abbrev pub number_of : NoFinals → ℕ
number_of NoPosition = 24
number_of StillOpen = 25

unfoldable pub closed_index : (day : Block) (position : ℕ) → Result ℕ NoFinals
closed_index day position = cond (is position 0 or less (n_of day) position) (Err NoPosition) (cond (neg (closed day position)) (Err StillOpen) (Ok (position - 1)))

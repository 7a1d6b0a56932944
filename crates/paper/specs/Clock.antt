-- "Other calls": the clock, which hands back the day's state beside its answer. A minute is counted from −10,080.
use Rattle.std.specs.Prelude.{cond, ◌++◌, ℕ, drop}
use Rattle.laws.specs.Tests.{◌or◌, neg, is, less}
use Rattle.paper.specs.declared.DayState.{DayState}
use Rattle.paper.specs.declared.ClockAnswer.{ClockAnswer}
use Rattle.paper.specs.Layout.{Bytes, Block, n_of, lead, clock_plus_10080, with_clock}
use Rattle.paper.specs.Ranges.{clock_allowed}
use Rattle.paper.specs.Book.{day_block}
use Rattle.paper.specs.Sound.{sound}

abbrev pub state_of : (n : ℕ) (lead : ℕ) (minute : ℕ) → DayState
state_of n lead minute = record { n = n; lead = lead; clock = record { 0 = minute } }

-- "n, lead and clock as then kept"
unfoldable pub day_state : (day : Block) → DayState
day_state day = state_of (n_of day) (lead day) (clock_plus_10080 day)

-- the day's state moved to a minute: "22 if lower than the kept clock or out of range; equal is accepted"
unfoldable pub advanced : (state : DayState) (minute : ℕ) → ClockAnswer
advanced state minute =
    cond (less minute state.clock.0 or neg (clock_allowed minute))
    (record { number = 22; state = state })
    (record { number = 0; state = state_of state.n state.lead minute })

-- 1, then 22; the state as then kept, "zeros on 1"
unfoldable pub clock_answer : (book : Bytes) (minute : ℕ) → ClockAnswer
clock_answer book minute = cond (sound book) (advanced (day_state (day_block book)) minute) (record { number = 1; state = state_of 0 0 0 })

-- the book after it
unfoldable pub clock_moved : (book : Bytes) (minute : ℕ) → Bytes
clock_moved book minute = cond (is (clock_answer book minute).number 0) (with_clock minute (day_block book) ++ drop 512 book) book

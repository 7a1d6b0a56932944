-- The answers of the clock's call, and the book as it leaves it.
use Rattle.std.specs.Prelude.{◌≡◌, ◌++◌, ◌≤◌}
use Rattle.laws.specs.Kit.{true, false, ℕ, arith, length, take, drop, is, is_equal, is_other}
use Rattle.laws.specs.Bytes.{part}
use Rattle.paper.specs.declared.ClockAnswer.{ClockAnswer}
use Rattle.paper.specs.declared.DayState.{DayState}
use Rattle.paper.specs.Layout.{Bytes, Block, with_clock}
use Rattle.paper.specs.Book.{day_block}
use Rattle.paper.specs.Sound.{sound}
use Rattle.paper.specs.Clock.{state_of, day_state, advanced, clock_answer, clock_moved}
use Rattle.facts.specs.Sound.{sound_says, book_least}

pub book_long : (book : Bytes) → sound book ≡ true → 512 ≤ length book
book_long book e = omega (arith, book_least book (sound_says book e))

module _ (book : Bytes) (minute : ℕ) where
  pub clock_unsound : sound book ≡ false → (record { number = 1; state = state_of 0 0 0 } ≡ clock_answer book minute) × (book ≡ clock_moved book minute)
  unfolding clock_answer clock_moved is
  clock_unsound e = (rw e, rw e)

  -- the answer, from the state that was read
  module _ (e : sound book ≡ true) {d : Block} {s : DayState} {a : ClockAnswer} (p : d ≡ part 0 512 book) (q : s ≡ day_state d) (r : a ≡ advanced s minute) where
    answered : a ≡ clock_answer book minute
    unfolding clock_answer day_block part
    answered = rw (e, ← p, ← q) r

    pub clock_refused : (a.number ≡ 0 → ⊥) → (a ≡ clock_answer book minute) × (book ≡ clock_moved book minute)
    unfolding clock_moved
    clock_refused n = (answered, rw (← answered, is_other _ _ n))

    pub clock_moved_lem : a.number ≡ 0 → {w : Block} → w ≡ with_clock minute (take 512 book) → (a ≡ clock_answer book minute) × (w ++ drop 512 book ≡ clock_moved book minute)
    unfolding clock_moved day_block
    clock_moved_lem n f = (answered, rw (← answered, is_equal _ _ n, f))

-- A call that writes does so only where its number is 0, so a refusal changes nothing.
use Rattle.std.specs.Prelude.{◌≡◌}
use Rattle.laws.specs.Base.{ℕ}
use Rattle.laws.specs.Tests.Laws.{is_equal, is_other}
use Rattle.paper.specs.Layout.{Bytes}
use Rattle.paper.specs.Rules.{number_of, verdict}
use Rattle.paper.specs.Acceptance.{accepted, submitted}
use Rattle.paper.specs.Opening.{Opening, open_number, opened}
use Rattle.paper.specs.Clock.{clock_answer, clock_moved}

pub opening_refused : (book : Bytes) (o : Opening) → (open_number book o ≡ 0 → ⊥) → opened book o ≡ book
unfolding opened
opening_refused book o n = rw (is_other _ _ n)

pub clock_refused : (book : Bytes) (minute : ℕ) → ((clock_answer book minute).number ≡ 0 → ⊥) → clock_moved book minute ≡ book
unfolding clock_moved
clock_refused book minute n = rw (is_other _ _ n)

pub submission_refused : (book message : Bytes) → (number_of (verdict book message) ≡ 0 → ⊥) → submitted book message ≡ book
unfolding submitted
submission_refused book message n = rw (is_other _ _ n)

pub submission_accepted : (book message : Bytes) → number_of (verdict book message) ≡ 0 → submitted book message ≡ accepted book message
unfolding submitted
submission_accepted book message e = rw (is_equal _ _ e)

-- The answer told is the clock's.
use Rattle.replay_answers.specs.Answers.{clock_told}
use Rattle.replay_answers.proofs.day_calls.clock.Goals as goal

pub returns : goal.returns
unfolding clock_told
returns c =
    let k = c.clock-answer.ensures in
    (rw k.0 at c.«of».ensures, k.1)

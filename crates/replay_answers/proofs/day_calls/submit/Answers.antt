-- The six numbers are the submission's: the verdict's, in their order, and the looks.
use Rattle.replay_answers.specs.Answers.{verdict_told, submit_told}
use Rattle.replay_answers.proofs.day_calls.submit.Goals as goal

pub returns : goal.returns
unfolding submit_told verdict_told
returns c =
    let a = c.submit-answer.ensures in
    (rw a.0 at c.«of».ensures, a.1)

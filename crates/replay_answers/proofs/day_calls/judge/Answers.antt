-- The five numbers are the verdict's, in their order.
use Rattle.replay_answers.specs.Answers.{verdict_told}
use Rattle.replay_answers.proofs.day_calls.judge.Goals as goal

pub returns : goal.returns
unfolding verdict_told
returns c = rw c.verdict-v.ensures at c.«of».ensures

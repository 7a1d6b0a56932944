-- The answer told is the plain run's.
use Rattle.replay_answers.specs.Answers.{plain_told}
use Rattle.replay_answers.specs.Answers.Laws.{as_number}
use Rattle.replay_answers.proofs.reading_calls.plain_run.Goals as goal

pub returns : goal.returns
unfolding plain_told
returns c = rw (c.from.ensures, as_number, c.plain_run-p.ensures) at c.«of».ensures

-- Yes is 1, no is 0.
use Rattle.replay_answers.specs.Answers.Laws.{as_number}
use Rattle.replay_answers.proofs.reading_calls.sound.Goals as goal

pub returns : goal.returns
returns c = rw (c.from.ensures, as_number, c.sound.ensures) at c.«of».ensures

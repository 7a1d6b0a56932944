-- The answer told is the quantity read.
use Rattle.laws.specs.Kit.{is}
use Rattle.replay_answers.specs.Answers.{leaf_numbers, read_told}
use Rattle.replay_answers.proofs.leaf_calls.read.Goals as goal

pub returns : goal.returns
unfolding leaf_numbers read_told is
returns c = rw c.quantity_read-r.ensures at c.«of».ensures

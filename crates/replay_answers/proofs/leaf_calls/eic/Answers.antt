-- The number told is that of the wrong character.
use Rattle.laws.specs.Kit.{is}
use Rattle.replay_answers.specs.Answers.{leaf_numbers}
use Rattle.replay_answers.proofs.leaf_calls.eic.Goals as goal

pub returns : goal.returns
unfolding leaf_numbers is
returns c = rw c.eic_number.ensures at c.«of».ensures

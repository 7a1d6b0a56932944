-- The code is that of the number in the byte.
use Rattle.laws.specs.Kit.{is}
use Rattle.replay_answers.specs.Answers.{leaf_numbers}
use Rattle.replay_answers.proofs.leaf_calls.code.Goals as goal

pub returns : goal.returns
unfolding leaf_numbers is
returns c = rw (c.reason_code.ensures, c.byte_or_zero.ensures) at c.«of».ensures

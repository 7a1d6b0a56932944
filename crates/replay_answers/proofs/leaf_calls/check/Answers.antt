-- The check, and whether it is right.
use Rattle.laws.specs.Kit.{is}
use Rattle.replay_answers.specs.Answers.{leaf_numbers}
use Rattle.replay_answers.specs.Answers.Laws.{as_number}
use Rattle.replay_answers.proofs.leaf_calls.check.Goals as goal

pub returns : goal.returns
unfolding leaf_numbers is
returns c = rw (c.from.ensures, as_number, c.check_right.ensures, c.check_of.ensures) at c.«of».ensures

-- Yes is 1, no is 0.
use Rattle.laws.specs.Kit.{is}
use Rattle.replay_answers.specs.Answers.{leaf_numbers}
use Rattle.replay_answers.specs.Answers.Laws.{as_number}
use Rattle.replay_answers.proofs.leaf_calls.id.Goals as goal

pub returns : goal.returns
unfolding leaf_numbers is
returns c = rw (c.from.ensures, as_number, c.id_well_formed.ensures) at c.«of».ensures

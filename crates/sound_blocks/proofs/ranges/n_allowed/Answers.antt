-- The three numbers are the definition's.
use Rattle.laws.specs.Kit.{arith, ◌or◌, is}
use Rattle.paper.specs.Ranges.{n_allowed}
use Rattle.sound_blocks.proofs.ranges.n_allowed.Goals as goal

pub returns-in-92 : goal.returns-in-92
unfolding n_allowed ◌or◌ is
returns-in-92 c = grind (arith, c.in-92.is)

pub returns-in_default : goal.returns-in_default
unfolding n_allowed ◌or◌ is
returns-in_default c = grind (arith, c.in_default)

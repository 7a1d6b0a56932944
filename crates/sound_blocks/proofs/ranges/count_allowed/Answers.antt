-- The bounds are the definition's.
use Rattle.laws.specs.Kit.{arith, ◌and◌, upto}
use Rattle.paper.specs.Ranges.{count_allowed}
use Rattle.sound_blocks.proofs.ranges.count_allowed.Goals as goal

pub returns : goal.returns
unfolding count_allowed ◌and◌ upto
returns c = rw (c.contains.ensures.value, c.new.ensures.start, c.new.ensures.end, c.new.ensures.exhausted) (grind arith)

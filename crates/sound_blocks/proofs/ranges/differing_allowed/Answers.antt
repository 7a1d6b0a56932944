-- Each layout's bounds are the definition's.
use Rattle.laws.specs.Kit.{arith, ◌and◌, upto}
use Rattle.paper.specs.Conversion.{state_allowed}
use Rattle.sound_blocks.specs.Layouts.{allowed_in}
use Rattle.sound_blocks.proofs.ranges.differing_allowed.Goals as goal

pub returns-then-old : goal.returns-then-old
unfolding allowed_in state_allowed ◌and◌ upto
returns-then-old c = rw (c.if-old.true, c.contains.ensures.value, c.new.ensures.start, c.new.ensures.end, c.new.ensures.exhausted) (grind arith)

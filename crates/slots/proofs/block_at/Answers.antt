-- Past the last whole block there is none; before it, the part cut out is the block.
use Rattle.laws.specs.Kit.{arith}
use Rattle.slots.proofs.Laws.{block_none, block_some}
use Rattle.slots.proofs.block_at.Goals as goal

pub returns-then-s-i : goal.returns-then-s-i
returns-then-s-i c = block_none _ _ c.if-s-i.true

pub returns : goal.returns
returns c = block_some _ _ (omega arith)

-- The block with number k has k − 1 before it.
use Rattle.slots.proofs.Laws.{numbered_none, numbered_some}
use Rattle.slots.proofs.numbered.Goals as goal

pub returns-then-k-eq0 : goal.returns-then-k-eq0
returns-then-k-eq0 c = numbered_none _ _ c.if-k-eq0.true

pub returns : goal.returns
returns c = numbered_some _ _ c.if-k-eq0.false c.block_at.ensures

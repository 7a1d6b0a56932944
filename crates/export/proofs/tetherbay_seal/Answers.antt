-- One test of the length decides both, answer and bytes; the seal of a block is the block crate's.
use Rattle.export.proofs.Laws.Seal.{seal_refused, seal_done}
use Rattle.export.proofs.tetherbay_seal.Goals as goal

pub returns-then-block-ne512 : goal.returns-then-block-ne512
returns-then-block-ne512 c = seal_refused _ c.if-block-ne512.true

pub returns : goal.returns
returns c = seal_done _ c.if-block-ne512.false c.seal.ensures

-- Four bytes of a slice are the part of it that begins with the first of them.
use Rattle.block.proofs.Laws.Turns.{four_at}
use Rattle.block.proofs.check.check_four_at.Goals as goal

pub returns : goal.returns
returns c = four_at _ _ _ c.requires c.check_four_bytes.ensures

-- The first 512 bytes are the part that starts at 0.
use Rattle.laws.specs.Bytes.{part}
use Rattle.paper.specs.Message.{head_of}
use Rattle.message.proofs.head_of.Goals as goal

pub returns : goal.returns
unfolding head_of part
returns c = c.part_of.ensures

-- The upper ten bits are below 1,024.
use Rattle.laws.specs.Kit.{arith}
use Rattle.index.specs.Linked.{bucket}
use Rattle.index.proofs.bucket.Goals as goal

pub returns : goal.returns
unfolding bucket
returns c = (rw c.key_tag_of.ensures, omega arith)

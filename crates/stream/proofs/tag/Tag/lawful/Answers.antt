-- The code asks the definition's questions of the tag's sizes.
use Rattle.laws.specs.Kit.{◌and◌, upto, ◌∙◌, arith}
use Rattle.stream.specs.Records.{lawful}
use Rattle.stream.proofs.tag.Tag.lawful.Goals as goal

pub returns : goal.returns
unfolding lawful ◌and◌ upto
returns c = let s = c.sizes.ensures in c.contains.ensures.value ∙ rw (s.0, s.1, s.2) (grind arith)

-- The library's class of characters is the definition's.
use Rattle.laws.specs.Kit.{◌and◌, upto}
use Rattle.paper.specs.Ids.{letter}
use Rattle.field.proofs.letter.Goals as goal

pub returns : goal.returns
unfolding letter ◌and◌ upto
returns c = c.is_ascii_uppercase.ensures.value

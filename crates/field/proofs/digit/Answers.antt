-- The library's class of characters is the definition's.
use Rattle.laws.specs.Kit.{◌and◌, upto}
use Rattle.paper.specs.Ids.{digit}
use Rattle.field.proofs.digit.Goals as goal

pub returns : goal.returns
unfolding digit ◌and◌ upto
returns c = c.is_ascii_digit.ensures.value

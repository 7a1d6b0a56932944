-- The code is the definition, word for word.
use Rattle.laws.specs.Kit.{refl, is}
use Rattle.paper.specs.Ids.{hyphen}
use Rattle.field.proofs.hyphen.Goals as goal

pub returns : goal.returns
unfolding hyphen is
returns c = refl

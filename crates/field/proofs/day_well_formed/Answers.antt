-- The two tests are joined as the definition joins them.
use Rattle.laws.specs.Kit.{◌and◌, is}
use Rattle.paper.specs.Ids.{day_well_formed}
use Rattle.field.proofs.day_well_formed.Goals as goal

pub returns : goal.returns
unfolding day_well_formed ◌and◌ is
returns c = cc

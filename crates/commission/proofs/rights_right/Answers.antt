-- The table is the definition's, and each of its rows holds.
use Rattle.laws.specs.Kit.{◌∙◌}
use Rattle.paper.specs.Listing.{text}
use Rattle.cases_site.specs.Tables.{rows, rights}
use Rattle.cases_site.specs.Proved.{rights_right}
use Rattle.commission.proofs.rights_right.Goals as goal

pub returns : goal.returns
unfolding rights rows text
returns g c = c.cases.ensures.0 ∙ rights_right

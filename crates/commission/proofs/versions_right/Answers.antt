-- The table is the definition's, and each of its rows holds.
use Rattle.laws.specs.Kit.{◌∙◌}
use Rattle.paper.specs.Listing.{text}
use Rattle.cases_site.specs.Tables.{rows, versions}
use Rattle.cases_site.specs.Proved.{versions_right}
use Rattle.commission.proofs.versions_right.Goals as goal

pub returns : goal.returns
unfolding versions rows text
returns g c = c.cases.ensures.0 ∙ versions_right

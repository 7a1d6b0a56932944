-- The table is the definition's, and each of its rows holds.
use Rattle.laws.specs.Kit.{◌∙◌}
use Rattle.paper.specs.Listing.{text}
use Rattle.cases_site.specs.Tables.{rows, leads}
use Rattle.cases_site.specs.Proved.{leads_right}
use Rattle.commission.proofs.leads_right.Goals as goal

pub returns : goal.returns
unfolding leads rows text
returns g c = c.cases.ensures.0 ∙ leads_right

-- The table is the definition's, and each of its rows holds.
use Rattle.laws.specs.Kit.{◌∙◌}
use Rattle.paper.specs.Listing.{text}
use Rattle.cases_site.specs.Tables.{rows, closed}
use Rattle.cases_site.specs.Proved.{closed_right}
use Rattle.commission.proofs.closed_right.Goals as goal

pub returns : goal.returns
unfolding closed rows text
returns g c = c.cases.ensures.0 ∙ closed_right

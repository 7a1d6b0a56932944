-- The table is the definition's, and each of its rows holds.
use Rattle.laws.specs.Kit.{ap, ◌∙◌}
use Rattle.paper.specs.Listing.{text}
use Rattle.cases_site.specs.Tables.{rows, checks}
use Rattle.cases_site.specs.Proved.{checks_right}
use Rattle.commission.proofs.checks_right.Goals as goal

pub returns : goal.returns
unfolding checks rows text
returns g c = c.cases.ensures.0 ∙ ap (λ p. p.0) (checks_right _)

-- The table and the page are the definition's, and hold.
use Rattle.laws.specs.Kit.{ap, ◌∙◌, ◌and◌}
use Rattle.laws.specs.Base.{ap₂}
use Rattle.laws.specs.Lists.{same}
use Rattle.paper.specs.Listing.{text}
use Rattle.cases_site.specs.Site.{shown, right_with_page}
use Rattle.cases_site.specs.Tables.{rows, listed, page}
use Rattle.cases_site.specs.Proved.{listed_right}
use Rattle.commission.proofs.listed_right.Goals as goal

pub returns : goal.returns
unfolding right_with_page listed rows text
returns g c =
    let rows = c.cases-right.ensures in
    c.both.ensures ∙ ap₂ ◌and◌ rows.0 (c.listed.ensures ∙ ap (λ b. same page (shown b)) rows.1) ∙ listed_right

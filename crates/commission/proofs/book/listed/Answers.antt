-- What is shown is the listing, as far as the room holds it.
use Rattle.laws.specs.Kit.{ap, ◌∙◌}
use Rattle.laws.specs.Base.{ap₂}
use Rattle.laws.specs.Lists.{same}
use Rattle.laws.specs.Bytes.{part}
use Rattle.paper.specs.Listing.{text}
use Rattle.cases_site.specs.Site.{shown}
use Rattle.cases_site.specs.Tables.{page}
use Rattle.commission.proofs.book.listed.Goals as goal

pub returns : goal.returns
unfolding shown page text
returns g c =
    let l = c.listing-n.ensures in
    c.page.ensures ∙ ap (same page) (c.part_of.ensures ∙ ap₂ (part 0) l.0 l.1)

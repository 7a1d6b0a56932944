-- Head, lines and the rest stand one behind the other.
use Rattle.paper.specs.Listing.{text}
use Rattle.desk_text.specs.Put.Laws.{then}
use Rattle.cases_site.specs.Site.{sellers_lines}
use Rattle.commission.proofs.book.sellers_text.Goals as goal

pub returns : goal.returns
unfolding sellers_lines text
returns c =
    then (then c.put-a.ensures c.put-b.ensures) c.put.ensures

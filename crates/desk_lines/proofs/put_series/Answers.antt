-- Name, what an external schedule has beside, and mark stand one behind the other, and the mark's fields are the block's.
use Rattle.paper.specs.Listing.{text}
use Rattle.desk_lines.specs.Lines.{series_text}
use Rattle.desk_text.specs.Put.Laws.{then}
use Rattle.desk_lines.proofs.put_series.Goals as goal

pub returns : goal.returns
unfolding series_text text
returns c =
    then (then c.put_name-a.ensures c.put_external-b.ensures) (rw (← c.differing.ensures, ← c.first.ensures, ← c.partner.ensures) c.put_mark.ensures)

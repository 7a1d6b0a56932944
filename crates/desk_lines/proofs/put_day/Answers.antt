-- The parts stand one behind the other.
use Rattle.paper.specs.Listing.{text}
use Rattle.desk_lines.specs.Lines.{day_text}
use Rattle.desk_text.specs.Put.Laws.{then}
use Rattle.desk_lines.proofs.put_day.Goals as goal

pub returns : goal.returns
unfolding day_text text
returns c = then (then (then (then c.put_worded-a.ensures c.put_worded-b.ensures) c.put-c.ensures) c.put_minute-d.ensures) c.put_end.ensures

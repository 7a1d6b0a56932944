-- The three parts stand one behind the other.
use Rattle.paper.specs.Listing.{text}
use Rattle.desk_faults.specs.Faults.{place}
use Rattle.desk_text.specs.Put.Laws.{then}
use Rattle.desk_faults.proofs.put_place.Goals as goal

pub returns : goal.returns
unfolding place text
returns c = then (then c.put_worded-a.ensures c.put-b.ensures) c.put.ensures

-- Its pieces, one behind the other.
use Rattle.paper.specs.Listing.{text}
use Rattle.desk_text.specs.Put.Laws.{then}
use Rattle.settlement_text.specs.Settlement.{sums_line}
use Rattle.settlement_text.proofs.put_sums.Goals as goal

pub returns : goal.returns
unfolding sums_line text
returns c =
    then (then (then (then (then c.put-a.ensures c.put_worded-b.ensures) c.put_worded-c.ensures) c.put-d.ensures) c.put_difference-e.ensures) c.put.ensures

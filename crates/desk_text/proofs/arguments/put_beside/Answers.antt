-- The path, then the ending.
use Rattle.paper.specs.Listing.{text}
use Rattle.desk_text.specs.Arguments.{beside}
use Rattle.desk_text.specs.Put.Laws.{then}
use Rattle.desk_text.proofs.arguments.put_beside.Goals as goal

pub returns : goal.returns
unfolding beside text
returns c = then c.put-behind.ensures c.put.ensures

-- The word, then the number.
use Rattle.desk_text.specs.Pieces.{worded}
use Rattle.desk_text.specs.Put.Laws.{then}
use Rattle.desk_text.proofs.pieces.put_worded.Goals as goal

pub returns : goal.returns
unfolding worded
returns c = then c.put-behind.ensures c.put_number.ensures

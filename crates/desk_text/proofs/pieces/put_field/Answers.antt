-- The word, then the field.
use Rattle.desk_text.specs.Put.Laws.{then}
use Rattle.desk_text.proofs.pieces.put_field.Goals as goal

pub returns : goal.returns
returns c = then c.put-behind.ensures c.put.ensures

-- The space, then the number.
use Rattle.desk_text.specs.Put.Laws.{then}
use Rattle.stream.specs.Line.{spaced}
use Rattle.stream.proofs.line.put_spaced.Goals as goal

pub returns : goal.returns
unfolding spaced
returns c = then c.put-behind.ensures c.put_number.ensures

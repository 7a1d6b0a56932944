-- The bytes, then the newline.
use Rattle.desk_text.specs.Put.Laws.{then}
use Rattle.stream.specs.Line.{hex_line}
use Rattle.stream.proofs.line.hex_line.Goals as goal

pub returns : goal.returns
unfolding hex_line
returns c = then c.put_hex-at.ensures c.put.ensures

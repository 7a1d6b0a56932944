-- The pieces that a newline ends are the lines.
use Rattle.desk_text.specs.Words.{line_numbered}
use Rattle.desk_text.proofs.words.line_numbered.Goals as goal

pub returns : goal.returns
unfolding line_numbered
returns c = c.piece_numbered.ensures

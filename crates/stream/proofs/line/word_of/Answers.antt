-- A tag's word is its row's; a byte that is no tag has none.
use Rattle.laws.specs.Kit.{sym}
use Rattle.stream.specs.Line.Laws.{word_none}
use Rattle.stream.proofs.line.word_of.Goals as goal

pub returns-in-Err : goal.returns-in-Err
returns-in-Err c = sym (word_none _ c.in-Err.ensures)

pub returns-in-Ok : goal.returns-in-Ok
returns-in-Ok c = rw c.in-Ok.ensures at c.word.ensures

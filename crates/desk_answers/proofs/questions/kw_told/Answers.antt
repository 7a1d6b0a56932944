-- The answer told is the quantity read.
use Rattle.desk_answers.proofs.questions.kw_told.Goals as goal

pub returns : goal.returns
returns c = rw (c.quantity_read-read.ensures, c.word.ensures) at c.quantity_line.ensures

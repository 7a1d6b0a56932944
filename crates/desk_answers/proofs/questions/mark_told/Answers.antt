-- The answer told is the mark's, of the sender and the id as they are read.
use Rattle.desk_answers.proofs.questions.mark_told.Goals as goal

pub returns : goal.returns
returns c = rw (c.mark-answer.ensures, c.word-2.ensures, c.id_field-id.ensures, c.word.ensures) at c.mark_line.ensures

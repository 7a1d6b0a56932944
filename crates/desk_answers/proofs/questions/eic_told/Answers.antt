-- The answer told is the check's number of the code.
use Rattle.desk_answers.proofs.questions.eic_told.Goals as goal

pub returns : goal.returns
returns c = rw (c.eic_number.ensures, c.word-code.ensures) at c.eic_line.ensures

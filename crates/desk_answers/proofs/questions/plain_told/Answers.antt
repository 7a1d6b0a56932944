-- The answer told is the plain run's.
use Rattle.desk_answers.proofs.questions.plain_told.Goals as goal

pub returns : goal.returns
returns c = rw c.plain_run-answer.ensures at c.plain_line.ensures

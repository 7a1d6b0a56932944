-- The code is the table's.
use Rattle.desk_lines.specs.Lines.{answer_of}
use Rattle.desk_lines.proofs.put_answer_of.Goals as goal

pub returns : goal.returns
unfolding answer_of
returns c = rw c.reason_code.ensures at c.put_answer.ensures

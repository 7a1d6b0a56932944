-- The answer, and the newline on 1, else the day's state.
use Rattle.laws.specs.Kit.{is_equal, is_other}
use Rattle.paper.specs.Listing.{text}
use Rattle.desk_lines.specs.Lines.{clock_line}
use Rattle.desk_text.specs.Put.Laws.{then}
use Rattle.desk_lines.proofs.clock_line.Goals as goal

pub returns-then-answer-eq1 : goal.returns-then-answer-eq1
unfolding clock_line text
returns-then-answer-eq1 c = rw (is_equal _ _ c.if-answer-eq1.true) (then c.put_answer_of-a.ensures c.put_end.ensures)

pub returns : goal.returns
unfolding clock_line
returns c = rw (is_other _ _ c.if-answer-eq1.false) (then c.put_answer_of-a.ensures c.put_day.ensures)

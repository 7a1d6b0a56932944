-- The answer, then the rule of the new book, else what is wrong with a code and the newline.
use Rattle.laws.specs.Kit.{is, is_equal, is_other}
use Rattle.paper.specs.Layout.{same_rule}
use Rattle.paper.specs.Listing.{text}
use Rattle.desk_lines.specs.Lines.{settling_text, open_line}
use Rattle.desk_text.specs.Put.Laws.{then}
use Rattle.desk_lines.proofs.open_line.Goals as goal

pub returns-then-answer-eq0 : goal.returns-then-answer-eq0
unfolding open_line settling_text same_rule is text
returns-then-answer-eq0 c = rw (is_equal _ _ c.if-answer-eq0.true) (then c.put_answer_of-a.ensures (rw c.eq.ensures at c.put_either.ensures))

pub returns : goal.returns
unfolding open_line text
returns c = rw (is_other _ _ c.if-answer-eq0.false) (then c.put_answer_of-a.ensures (then c.put_opening_fault-b.ensures c.put_end.ensures))

-- Yes where the number is 0, else no and what is wrong.
use Rattle.laws.specs.Kit.{is, is_equal, is_other}
use Rattle.paper.specs.Listing.{text}
use Rattle.desk_lines.specs.Lines.{eic_line}
use Rattle.desk_text.specs.Put.Laws.{then}
use Rattle.desk_lines.proofs.eic_line.Goals as goal

pub returns-then-character-eq0 : goal.returns-then-character-eq0
unfolding eic_line is text
returns-then-character-eq0 c = rw (is_equal _ _ c.if-character-eq0.true) (rw (is_equal _ _ c.if-character-eq0.true) at c.put_either-a.ensures)

pub returns : goal.returns
unfolding eic_line is text
returns c = rw (is_other _ _ c.if-character-eq0.false) (then (then (rw (is_other _ _ c.if-character-eq0.false) at c.put_either-a.ensures) c.put_fault-b.ensures) c.put_end.ensures)

-- The answer, and nothing behind a refusal, else the mark.
use Rattle.paper.specs.Listing.{text}
use Rattle.desk_lines.specs.Lines.{mark_line}
use Rattle.desk_text.specs.Put.Laws.{then}
use Rattle.desk_lines.proofs.Laws.{refused, accepted}
use Rattle.desk_lines.proofs.mark_line.Goals as goal

pub returns-then-answer-ne0 : goal.returns-then-answer-ne0
unfolding mark_line
returns-then-answer-ne0 c = refused _ c.if-answer-ne0.true c.put_telling-a.ensures

pub returns : goal.returns
unfolding mark_line text
returns c = accepted _ c.if-answer-ne0.false c.put_telling-a.ensures (then c.put_mark-b.ensures c.put_end.ensures)

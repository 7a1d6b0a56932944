-- The answer, and nothing behind a refusal, else the quantity and its rule.
use Rattle.laws.specs.Kit.{is}
use Rattle.paper.specs.Layout.{same_rule}
use Rattle.paper.specs.Listing.{text}
use Rattle.desk_lines.specs.Lines.{chosen_text, final_line}
use Rattle.desk_text.specs.Put.Laws.{then}
use Rattle.desk_lines.proofs.Laws.{refused, accepted}
use Rattle.desk_lines.proofs.final_line.Goals as goal

pub returns-then-answer-ne0 : goal.returns-then-answer-ne0
unfolding final_line
returns-then-answer-ne0 c = refused _ c.if-answer-ne0.true c.put_telling-a.ensures

pub returns : goal.returns
unfolding final_line chosen_text same_rule is text
returns c = accepted _ c.if-answer-ne0.false c.put_telling-a.ensures (then c.put_megawatts-b.ensures (rw c.eq.ensures at c.put_either.ensures))

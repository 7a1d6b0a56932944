-- The answer, and nothing behind a refusal, else what the plain run says.
use Rattle.paper.specs.Listing.{text}
use Rattle.desk_lines.specs.Lines.{plain_text, plain_line}
use Rattle.desk_lines.proofs.Laws.{refused, accepted}
use Rattle.desk_lines.proofs.plain_line.Goals as goal

pub returns-then-answer-ne0 : goal.returns-then-answer-ne0
unfolding plain_line
returns-then-answer-ne0 c = refused _ c.if-answer-ne0.true c.put_telling-a.ensures

pub returns : goal.returns
unfolding plain_line plain_text text
returns c = accepted _ c.if-answer-ne0.false c.put_telling-a.ensures c.put_either.ensures

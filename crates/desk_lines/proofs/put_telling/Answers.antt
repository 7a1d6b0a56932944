-- The answer, then the newline of a refusal.
use Rattle.laws.specs.Kit.{is}
use Rattle.paper.specs.Listing.{text}
use Rattle.desk_lines.specs.Lines.{telling}
use Rattle.desk_text.specs.Put.Laws.{then}
use Rattle.desk_lines.proofs.put_telling.Goals as goal

pub returns : goal.returns
unfolding telling is text
returns c = then c.put_answer_of-behind.ensures c.put_either.ensures

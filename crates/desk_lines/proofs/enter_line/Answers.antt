-- The answer, then what was done, else the newline of a refusal.
use Rattle.laws.specs.Kit.{is}
use Rattle.paper.specs.Listing.{text}
use Rattle.desk_lines.specs.Lines.{telling, enter_line}
use Rattle.desk_text.specs.Put.Laws.{then}
use Rattle.desk_lines.proofs.enter_line.Goals as goal

pub returns : goal.returns
unfolding enter_line telling is text
returns c = then c.put_answer_of-a.ensures c.put_either.ensures

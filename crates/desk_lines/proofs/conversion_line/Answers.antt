-- The answer, then what was done, else in which layout the book is judged.
use Rattle.laws.specs.Kit.{is}
use Rattle.paper.specs.Listing.{text}
use Rattle.desk_lines.specs.Lines.{conversion_line}
use Rattle.desk_text.specs.Put.Laws.{then}
use Rattle.desk_lines.proofs.conversion_line.Goals as goal

pub returns : goal.returns
unfolding conversion_line is text
returns c = then c.put_answer_of-a.ensures c.put_either.ensures

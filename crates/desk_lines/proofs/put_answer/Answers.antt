-- The parts stand one behind the other, and the words of 0 are empty.
use Rattle.laws.specs.Kit.{is}
use Rattle.paper.specs.Listing.{text}
use Rattle.desk_lines.specs.Lines.{status, answer_text}
use Rattle.desk_text.specs.Pieces.{worded}
use Rattle.desk_text.specs.Put.Laws.{called, then}
use Rattle.desk_lines.proofs.Laws.{reason_said}
use Rattle.desk_lines.proofs.put_answer.Goals as goal

pub returns : goal.returns
unfolding answer_text status worded is text
returns c =
    let number = then c.put_either-a.ensures c.put_number-b.ensures in
    let place = then (then (then number c.put_code-c.ensures) c.put_named-d.ensures) c.put_named-e.ensures in
    then place (called _ (reason_said _) (then c.put_either-f.ensures c.put_meaning.ensures))

-- The numbers, the code, the comma, then the words, these of the state that count and partner say.
use Rattle.paper.specs.Listing.{text}
use Rattle.paper.specs.Marks.{mark_code}
use Rattle.desk_lines.specs.Lines.{state_text, mark_text}
use Rattle.desk_text.specs.Put.Laws.{then}
use Rattle.desk_lines.proofs.put_mark.Goals as goal

pub returns : goal.returns
unfolding mark_text state_text mark_code text
returns c =
    let numbers = then (then c.put_worded-a.ensures c.put_worded-b.ensures) c.put_worded-c.ensures in
    rw (← c.state_of_mark-state.ensures, ← c.state_code.ensures) (then numbers (then (then c.put_code-d.ensures c.put-e.ensures) c.put_state_meaning.ensures))

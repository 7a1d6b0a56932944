-- The fields are the block's, and stand one behind the other.
use Rattle.laws.specs.Kit.{ap}
use Rattle.paper.specs.Listing.{text}
use Rattle.desk_lines.specs.Lines.{name_text}
use Rattle.desk_text.specs.Pieces.{worded}
use Rattle.desk_text.specs.Put.Laws.{called, then}
use Rattle.desk_lines.proofs.put_name.Goals as goal

pub returns : goal.returns
unfolding name_text text
returns c =
    let i = rw (c.id_text.ensures, c.id_of.ensures) at c.put_field-a.ensures in
    let v = called _ (ap (worded _) c.version.ensures) c.put_worded-b.ensures in
    let b = rw c.in_party.ensures at c.put_field-c.ensures in
    then (then (then i v) b) (rw c.out_party.ensures at c.put_field.ensures)

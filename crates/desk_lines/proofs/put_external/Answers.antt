-- Nothing of a trade; else the fields are the block's, and stand one behind the other.
use Rattle.laws.specs.Kit.{ap, sym, ◌∙◌}
use Rattle.paper.specs.Listing.{text}
use Rattle.desk_lines.specs.Lines.{external_text}
use Rattle.desk_text.specs.Pieces.{worded}
use Rattle.desk_text.specs.Put.Laws.{called, then}
use Rattle.desk_lines.proofs.put_external.Goals as goal

pub returns-then-is_external : goal.returns-then-is_external
unfolding external_text text
returns-then-is_external c =
    let type = called _ (ap (worded _) c.business_type.ensures) c.put_worded-a.ensures in
    rw (sym c.is_external.ensures ∙ c.if-is_external.true)
    (then (then (then type (rw c.in_area.ensures at c.put_field-b.ensures)) (rw c.out_area.ensures at c.put_field-c.ensures)) c.put_capacity.ensures)

pub returns : goal.returns
unfolding external_text text
returns c =
    rw (sym c.is_external.ensures ∙ c.if-is_external.false) c.put.ensures

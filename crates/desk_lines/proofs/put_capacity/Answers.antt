-- Nothing but on a right; there contract type and agreement are the block's.
use Rattle.laws.specs.Kit.{ap, sym, ◌∙◌}
use Rattle.paper.specs.Listing.{text}
use Rattle.desk_lines.specs.Lines.{capacity_text}
use Rattle.desk_text.specs.Pieces.{worded}
use Rattle.desk_text.specs.Put.Laws.{called, then}
use Rattle.desk_lines.proofs.put_capacity.Goals as goal

pub returns-then-with_capacity : goal.returns-then-with_capacity
unfolding capacity_text text
returns-then-with_capacity c =
    rw (sym c.with_capacity.ensures ∙ c.if-with_capacity.true)
    (then (called _ (ap (worded _) c.contract_type.ensures) c.put_worded-a.ensures) (rw (c.id_text.ensures, c.agreement.ensures) at c.put_field.ensures))

pub returns : goal.returns
unfolding capacity_text text
returns c =
    rw (sym c.with_capacity.ensures ∙ c.if-with_capacity.false) c.put.ensures

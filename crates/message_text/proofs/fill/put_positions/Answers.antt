-- Past both tests the positions are 1 to 100, and the quantity is written at each of them.
use Rattle.laws.specs.Kit.{arith, and_left, and_right, less_yes, upto_yes}
use Rattle.message_text.proofs.Laws.Fields.{positions_wrong, quantity_wrong, positions_right}
use Rattle.laws.specs.Kit.{◌∙◌}
use Rattle.laws.specs.Kit.{sym}
use Rattle.message_text.proofs.fill.put_positions.Goals as goal

pub returns-then-not-positions_fine : goal.returns-then-not-positions_fine
returns-then-not-positions_fine c =
    positions_wrong _ _ _ c.kind.ensures c.first_of-first.ensures c.last_of-last.ensures c.quantity_read-read.ensures (sym c.positions_fine.ensures ∙ c.if-not-positions_fine.true)

pub returns-then-read-ne0 : goal.returns-then-read-ne0
returns-then-read-ne0 c =
    quantity_wrong _ _ _ c.kind.ensures c.first_of-first.ensures c.last_of-last.ensures c.quantity_read-read.ensures c.if-read-ne0.true

pub overflow_sub-first : goal.overflow_sub-first
overflow_sub-first c = omega (arith, less_yes _ _ (and_right _ _ (and_left _ _ (and_left _ _ (sym c.positions_fine.ensures ∙ c.if-not-positions_fine.false)))))

pub put_quantities-requires : goal.put_quantities-requires
put_quantities-requires c = upto_yes _ _ (and_right _ _ (sym c.positions_fine.ensures ∙ c.if-not-positions_fine.false))

pub returns : goal.returns
returns c =
    positions_right _ _ _ c.kind.ensures c.first_of-first.ensures c.last_of-last.ensures c.quantity_read-read.ensures (sym c.positions_fine.ensures ∙ c.if-not-positions_fine.false) c.if-read-ne0.false c.put_quantities.ensures

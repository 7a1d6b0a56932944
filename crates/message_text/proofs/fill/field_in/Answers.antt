-- What the rows ahead give is what all of them give.
use Rattle.laws.specs.Kit.{refl, sym, ◌∙◌, []}
use Rattle.message_text.proofs.Laws.Fields.{row_hit, row_miss, rows_end}
use Rattle.message_text.proofs.fill.field_in.Goals as goal

pub loop-row-init : goal.loop-row-init
loop-row-init c = refl

pub returns-then-same : goal.returns-then-same
returns-then-same c = row_hit c.args.rows.now c.args.w.now _ _ c.loop-row.invariant c.loop-row-test.true (sym c.same.ensures ∙ c.if-same.true)

pub loop-row-preserved : goal.loop-row-preserved
loop-row-preserved c = row_miss c.args.rows.now c.args.w.now _ _ c.loop-row.invariant c.loop-row-test.true (sym c.same.ensures ∙ c.if-same.false)

pub returns : goal.returns
returns c = rows_end c.args.rows.now c.args.w.now _ (record { word = record { ref_ptr = (0, 0); now = [] }; field = record { at = 0; width = 0 } }) c.loop-row.invariant c.loop-row-test.false

use Rattle.std.specs.Prelude.{◌≡◌}
use Rattle.laws.specs.Kit.{drop}
use Rattle.message_text.specs.Rows.{field_by}
use Rattle.message_text.proofs.fill.field_in.Given as goal

abbrev pub invariant-loop-row : goal.invariant-loop-row
invariant-loop-row l = field_by (drop l.row-index l.rows) l.w ≡ field_by l.rows l.w

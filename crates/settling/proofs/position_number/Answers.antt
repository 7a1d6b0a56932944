-- The index of the position, or why there is none, tells the number.
use Rattle.laws.specs.Kit.{sym, ap, ◌∙◌}
use Rattle.settling.proofs.Laws.{number_by, number_by_index}
use Rattle.settling.proofs.position_number.Goals as goal

pub returns-in-Ok : goal.returns-in-Ok
returns-in-Ok c = ap number_by (sym c.in-Ok.is ∙ c.closed_index.ensures.0) ∙ number_by_index _ _

pub returns-in-Err : goal.returns-in-Err
returns-in-Err c = c.number.ensures ∙ ap number_by (sym c.in-Err.is ∙ c.closed_index.ensures.0) ∙ number_by_index _ _

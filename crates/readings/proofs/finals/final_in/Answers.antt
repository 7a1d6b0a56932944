-- The index of the position, or why there is none, decides.
use Rattle.laws.specs.Kit.{sym, ap, ◌∙◌}
use Rattle.paper.specs.Finals.{final_refused}
use Rattle.readings.proofs.Laws.Final.{final_by, final_by_index}
use Rattle.readings.proofs.finals.final_in.Goals as goal

pub final_held-requires : goal.final_held-requires
final_held-requires c = c.in-Ok.ensures.1

pub returns-in-Ok : goal.returns-in-Ok
returns-in-Ok c =
    rw c.rule_of.ensures at c.final_held.ensures ∙ ap (final_by _ _ _ _) (sym c.in-Ok.is ∙ c.closed_index.ensures.0) ∙ final_by_index _ _ _ _ _

pub returns-in-Err : goal.returns-in-Err
returns-in-Err c =
    c.final_refused.ensures ∙ ap final_refused c.number.ensures ∙ ap (final_by _ _ _ _) (sym c.in-Err.is ∙ c.closed_index.ensures.0) ∙ final_by_index _ _ _ _ _

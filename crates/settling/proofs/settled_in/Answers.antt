-- A position that is refused is refused as the definition has it; past that the sums are those of the finals.
use Rattle.laws.specs.Kit.{refl, sym, ap, ◌∙◌}
use Rattle.laws.specs.Cut.Laws.{cut_length}
use Rattle.paper.specs.Settled.{settled_refused}
use Rattle.settling.proofs.Laws.{number_by, number_by_index, index_is, why_refused, refused_in, closed_at, sums_settled}
use Rattle.settling.proofs.settled_in.Goals as goal

pub values_at-requires : goal.values_at-requires
values_at-requires c = (c.requires.1, c.requires.2, c.in-Ok.ensures.1)

pub returns-in-Ok : goal.returns-in-Ok
returns-in-Ok c =
    let e = sym c.in-Ok.is ∙ c.closed_index.ensures.0 in
    sums_settled _ _ _ (closed_at _ _ (ap number_by e ∙ number_by_index _ _) refl) _ c.rule_of.ensures _ (cut_length 512 _) _ (rw (index_is _ _ e) at c.values_at.ensures) _ _ c.sums_of.ensures.0 c.sums_of.ensures.1 c.sums_of.ensures.2

pub returns-in-Err : goal.returns-in-Err
returns-in-Err c =
    let e = ap number_by (sym c.in-Err.is ∙ c.closed_index.ensures.0) ∙ number_by_index _ _ in
    c.settled_refused.ensures ∙ ap settled_refused c.number.ensures ∙ refused_in _ _ e _ _ (why_refused c.in-Err.why)

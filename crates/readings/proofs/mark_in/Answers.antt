-- The place of the stored series says whether there is one, and where its mark stands.
use Rattle.laws.specs.Kit.{◌∙◌, sym, is, is_yes, is_no}
use Rattle.readings.proofs.Laws.Marks.{mark_none, mark_some}
use Rattle.readings.proofs.mark_in.Goals as goal

pub returns-then-eq : goal.returns-then-eq
unfolding is
returns-then-eq c = c.mark_refused.ensures ∙ mark_none _ _ _ _ c.stored_as-slot.ensures (is_yes _ _ (sym c.eq.ensures ∙ c.if-eq.true))

pub returns : goal.returns
unfolding is
returns c =
    c.mark_of.ensures ∙ mark_some _ _ _ _ c.stored_as-slot.ensures (is_no _ _ (sym c.eq.ensures ∙ c.if-eq.false)) c.numbered.ensures

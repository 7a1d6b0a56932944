-- The first of the three tests that fails decides; past two that hold, the third does.
use Rattle.laws.specs.Kit.{sym, ◌∙◌, ◌and◌, neg, is, clash}
use Rattle.paper.specs.Marks.{is_counterpart}
use Rattle.marks.proofs.is_counterpart.Goals as goal
use Rattle.marks.proofs.is_counterpart.Goals.{then-is_series, else-is_series}

pub returns-then-ne : goal.returns-then-ne
unfolding is_counterpart ◌and◌ neg is
returns-then-ne c = elim c.if-is_series.branch [
  | then-is_series w ↦ rw (sym c.is_series.ensures ∙ w.if-is_series.true, rw w.senders_slot.ensures at (sym w.ne.ensures ∙ sym w.value-is ∙ c.if-ne.true)) c.same_trade.ensures
  | else-is_series w ↦ clash (sym w.value-is ∙ c.if-ne.true) w.if-is_series.false
]

pub returns-else-ne : goal.returns-else-ne
unfolding is_counterpart ◌and◌ neg is
returns-else-ne c = elim c.if-is_series.branch [
  | then-is_series w ↦ rw (sym c.is_series.ensures ∙ w.if-is_series.true, rw w.senders_slot.ensures at (sym w.ne.ensures ∙ sym w.value-is ∙ c.if-ne.false)) c.if-ne.false
  | else-is_series w ↦ rw (sym c.is_series.ensures ∙ w.if-is_series.false) (w.value-is ∙ w.if-is_series.false)
]

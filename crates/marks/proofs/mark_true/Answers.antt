-- No series passes; a series passes if its mark has the bytes of the mark worked out afresh.
use Rattle.laws.specs.Kit.{◌or◌, neg}
use Rattle.paper.specs.PlainRun.{mark_true}
use Rattle.laws.specs.Kit.{◌∙◌}
use Rattle.laws.specs.Kit.{sym}
use Rattle.marks.proofs.mark_true.Goals as goal

pub returns-then-not-is_series : goal.returns-then-not-is_series
unfolding mark_true ◌or◌ neg
returns-then-not-is_series c = rw (sym c.is_series.ensures ∙ c.if-not-is_series.true)

pub returns : goal.returns
unfolding mark_true ◌or◌ neg
returns c =
    rw ((sym c.is_series.ensures ∙ c.if-not-is_series.false), ← c.mark.ensures, ← c.mark_in-due.ensures) c.same.ensures

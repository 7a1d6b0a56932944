-- Without a counterpart the series stands alone; with one, count and first are those of the two.
use Rattle.laws.specs.Kit.{◌∙◌}
use Rattle.laws.specs.Bytes.{little}
use Rattle.marks.proofs.Laws.{mark_alone, mark_found_lem}
use Rattle.marks.proofs.mark_with.Goals as goal

pub returns-then-slot-eq0 : goal.returns-then-slot-eq0
returns-then-slot-eq0 c = mark_alone _ _ _ _ c.requires.1 c.if-slot-eq0.true

pub returns : goal.returns
unfolding little
returns c =
    rw c.to_le_bytes-bytes.ensures
    (mark_found_lem _ _ _ _ c.requires.1 c.if-slot-eq0.false _ _ (rw c.numbered.ensures at c.compare-d.ensures.0) (c.unwrap_or.ensures ∙ rw c.numbered.ensures at c.compare-d.ensures.1))

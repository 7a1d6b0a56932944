-- What stands before the first free slot is cut off by its count; where there is no day block, there are no slots.
use Rattle.laws.specs.Kit.{arith, length-take, length-drop}
use Rattle.slots.proofs.Laws.{used_none, used_some}
use Rattle.slots.proofs.used_part.Goals as goal

pub returns-then-book-lt512 : goal.returns-then-book-lt512
returns-then-book-lt512 c = (used_none _ c.if-book-lt512.true, omega arith)

pub returns : goal.returns
returns c = (used_some _ _ c.used_count.ensures.0, simp (length-take, length-drop) (omega arith))

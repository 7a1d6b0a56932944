-- A part that would go past the end is what lies up to the end, and one that starts there is empty.
use Rattle.laws.specs.Kit.{sym, add-sub_cancel_left}
use Rattle.laws.specs.Bytes.{part}
use Rattle.laws.specs.Slices.{part_past, part_slice_short}
use Rattle.field.proofs.part_of.Goals as goal

pub returns-then-s-at : goal.returns-then-s-at
returns-then-s-at c = sym (part_past _ _ _ c.if-s-at.true)

pub returns-then-s-at-2 : goal.returns-then-s-at-2
returns-then-s-at-2 c = part_slice_short _ _ _ c.if-s-at-2.true

pub returns : goal.returns
unfolding part
returns c = rw add-sub_cancel_left

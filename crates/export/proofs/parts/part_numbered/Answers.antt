-- The three returns are the three cases of the definition.
use Rattle.export.proofs.Laws.Parts.{part_first, part_past, part_inside}
use Rattle.export.proofs.parts.part_numbered.Goals as goal

pub returns-then-number-eq0 : goal.returns-then-number-eq0
returns-then-number-eq0 c = part_first _ _ c.if-number-eq0.true

pub returns-then-buffer-number : goal.returns-then-buffer-number
returns-then-buffer-number c = part_past _ _ c.if-number-eq0.false c.if-buffer-number.true

pub returns : goal.returns
returns c = part_inside _ _ c.if-number-eq0.false c.if-buffer-number.false

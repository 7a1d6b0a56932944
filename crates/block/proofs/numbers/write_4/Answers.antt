-- What is written at an offset is written at the start of what stands from there on; past the end nothing is.
use Rattle.laws.specs.Kit.{sym}
use Rattle.laws.specs.Bytes.{little}
use Rattle.laws.specs.Slices.{written_past, written_slice}
use Rattle.block.proofs.numbers.write_4.Goals as goal

pub returns-then-at-s : goal.returns-then-at-s
returns-then-at-s c = let a = c.args in written_slice a.at (little 4 a.x) a.s.now c.write_first_4.ensures

pub returns-else-at-s : goal.returns-else-at-s
returns-else-at-s c = let a = c.args in sym (written_past a.at (little 4 a.x) a.s.now c.if-at-s.false)

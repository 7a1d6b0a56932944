-- What is still to be written over what is written so far gives the whole, and at the end of either row nothing is left to write.
use Rattle.laws.specs.Kit.{arith, refl, step_byte, length-set}
use Rattle.block.proofs.Laws.Writing.{write_more, write_end}
use Rattle.block.proofs.numbers.write_first.Goals as goal

pub loop-i-init : goal.loop-i-init
loop-i-init c = (refl, refl)

pub loop-i-preserved : goal.loop-i-preserved
loop-i-preserved c = let l = c.loop-i in (simp length-set l.invariant.0, write_more _ _ l.invariant.1 (step_byte _ _ (omega arith)))

pub returns : goal.returns
returns c = write_end _ _ _ (omega arith) c.loop-i.invariant.1

-- What is found so far, with the comparison of the bytes left, is the comparison of all.
use Rattle.laws.specs.Kit.{arith, refl, step_byte, end_list, same_start, same_go, same_end}
use Rattle.field.proofs.same_bytes.Goals as goal

pub loop-i-init : goal.loop-i-init
loop-i-init c = same_start _ _

pub loop-i-preserved : goal.loop-i-preserved
loop-i-preserved c = same_go c.loop-i.ok c.loop-i.invariant (step_byte _ _ c.loop-i-test.true) (step_byte _ _ (omega (arith, c.requires, c.loop-i-test.true))) refl

pub returns : goal.returns
returns c = same_end _ c.loop-i.invariant (end_list _ _ c.loop-i-test.false) (end_list _ _ (omega (arith, c.requires, c.loop-i-test.false)))

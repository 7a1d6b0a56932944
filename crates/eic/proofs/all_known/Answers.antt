-- The test of the values so far, with that of the values left, is the test of all.
use Rattle.laws.specs.Kit.{arith, refl, step_byte, end_list, ◌and◌, neg, is, every_start, every_go, every_end}
use Rattle.eic.specs.Values.{known}
use Rattle.eic.proofs.all_known.Goals as goal

pub loop-value-init : goal.loop-value-init
loop-value-init c = every_start _ _

pub loop-value-preserved : goal.loop-value-preserved
unfolding ◌and◌ known neg is
loop-value-preserved c = every_go known c.loop-value.ok c.loop-value.invariant (step_byte _ _ c.loop-value-test.true) refl

pub returns : goal.returns
returns c = every_end _ _ c.loop-value.invariant (end_list _ _ c.loop-value-test.false)

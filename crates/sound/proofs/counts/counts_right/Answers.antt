-- Those up to i are judged, and the rest gives what is left to judge.
use Rattle.laws.specs.Kit.{step_cut_at, end_cut, every_start, every_go, every_end}
use Rattle.sound.proofs.counts.counts_right.Goals as goal

pub loop-i-init : goal.loop-i-init
loop-i-init c = every_start _ _

pub loop-i-preserved : goal.loop-i-preserved
loop-i-preserved c = every_go _ _ c.loop-i.invariant (step_cut_at _ _ _ c.loop-i-test.true) c.count_right-ok.ensures

pub returns : goal.returns
returns c = every_end _ _ c.loop-i.invariant (end_cut _ _ _ c.loop-i-test.false)

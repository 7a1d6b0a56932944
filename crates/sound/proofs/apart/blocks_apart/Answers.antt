-- Blocks up to i clash with none behind them, and the rest gives what is left to judge.
use Rattle.laws.specs.Kit.{step_cut_at, end_cut, apart_start, apart_go, apart_end}
use Rattle.sound.proofs.apart.blocks_apart.Goals as goal

pub loop-i-init : goal.loop-i-init
loop-i-init c = apart_start _ _

pub loop-i-preserved : goal.loop-i-preserved
loop-i-preserved c = apart_go _ _ c.loop-i.invariant (step_cut_at _ _ _ c.loop-i-test.true) c.clear_of_later-ok.ensures

pub returns : goal.returns
returns c = apart_end _ _ c.loop-i.invariant (end_cut _ _ _ c.loop-i-test.false)

-- The first k sums are 0.
use Rattle.std.specs.Prelude.{◌≡◌}
use Rattle.laws.specs.Kit.{arith}
use Rattle.judge.proofs.Laws.Sums.{cleared_none, cleared_more}
use Rattle.judge.proofs.rights.clear.Goals as goal

pub loop-k-init : goal.loop-k-init
loop-k-init c = cleared_none _ c.requires

pub loop-k-preserved : goal.loop-k-preserved
loop-k-preserved c = cleared_more _ _ c.loop-k-test.true c.loop-k.invariant

pub returns : goal.returns
returns c = let e : c.loop-k.k ≡ 100 = omega arith in rw e at c.loop-k.invariant

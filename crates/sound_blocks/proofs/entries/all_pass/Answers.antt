-- Those below k are asked; at n all are.
use Rattle.laws.specs.Kit.{arith, refl, below, below_go, at_end}
use Rattle.sound_blocks.proofs.entries.all_pass.Goals as goal

pub loop-k-init : goal.loop-k-init
unfolding below
loop-k-init g c p t = refl

pub loop-k-preserved : goal.loop-k-preserved
loop-k-preserved g c p t = below_go p c.loop-k.k _ _ (c.loop-k.invariant p t) (t _ _ c.loop-k-test.true c.passes-ok.ensures)

pub returns : goal.returns
returns g c p t = at_end (below p) (c.loop-k.invariant p t) (omega arith) (omega arith)

-- The places of the first k blocks are found.
use Rattle.laws.specs.Kit.{arith, refl, ◌∙◌, length-set}
use Rattle.laws.specs.Cut.Laws.{cut_length}
use Rattle.index.specs.Linked.Laws.{found_none, found_more, found_all, call_at}
use Rattle.index.proofs.find_each.Goals as goal

pub loop-k-init : goal.loop-k-init
loop-k-init g c = (c.requires.2, λ sought us t. found_none _ _ _ _)

pub loop-k-preserved : goal.loop-k-preserved
loop-k-preserved g c =
    let i = c.loop-k.invariant in (
      length-set _ _ _ ∙ i.0,
      λ sought us t. found_more _ _ _ _ _ (omega (arith, i.0, c.requires.1, c.loop-k-test.true)) c.block_at.ensures (t _ _ (call_at _ _ _ refl c.find.ensures)) (i.1 sought us t),
    )

pub returns : goal.returns
returns g c = λ sought us t. found_all _ _ _ _ _ (rw (cut_length 512 _) c.loop-k-test.false) c.loop-k.invariant.0 (c.loop-k.invariant.1 sought us t)

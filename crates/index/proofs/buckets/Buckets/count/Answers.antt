-- Between a block and the next of its bucket stands none of the bucket.
use Rattle.laws.specs.Kit.{arith}
use Rattle.index.specs.Linked.Laws.{counting_start, counting_end, counting_on, nearer, left_most}
use Rattle.index.proofs.buckets.Buckets.count.Goals as goal

pub loop-at-init : goal.loop-at-init
loop-at-init c = (c.first-at.ensures.1, left_most _ c.first-at.ensures.1, counting_start _ _ _ c.requires c.first-at.ensures.0, c.first-at.ensures.2)

pub overflow_add-n : goal.overflow_add-n
overflow_add-n c = omega (arith, c.loop-at.invariant.1)

pub loop-at-smaller : goal.loop-at-smaller
loop-at-smaller c = nearer _ _ _ c.loop-at.invariant.3 c.loop-at-test.true c.next-at.ensures.0

pub loop-at-preserved : goal.loop-at-preserved
loop-at-preserved c =
    let i = c.loop-at.invariant in
    let e = c.next-at.ensures.1 i.3 in
    let h = nearer _ _ _ i.3 c.loop-at-test.true c.next-at.ensures.0 in
    (e.1, omega (arith, i.1, h), counting_on _ _ _ _ _ i.2 c.loop-at-test.true c.next-at.ensures.0, e.0)

pub returns : goal.returns
returns c = counting_end _ _ _ _ _ c.loop-at.invariant.2 c.loop-at-test.false

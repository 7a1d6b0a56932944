-- The search stands at a block of the bucket, and what it has passed by is not sought.
use Rattle.index.specs.Ahead.Laws.{ends_most}
use Rattle.index.specs.Linked.Laws.{going_start, going_end, going_hit, going_on, nearer}
use Rattle.index.proofs.buckets.Buckets.find_from.Goals as goal

pub loop-at-init : goal.loop-at-init
loop-at-init g c = (ends_most _ _ c.requires.0, going_start _ _ _, c.requires.0)

pub returns-then-test : goal.returns-then-test
returns-then-test g c = (going_hit _ _ _ _ c.loop-at.invariant.1 c.loop-at-test.true (rw c.if-test.true at c.test.ensures), c.loop-at.invariant.0)

pub loop-at-smaller : goal.loop-at-smaller
loop-at-smaller g c = nearer _ _ _ c.loop-at.invariant.2 c.loop-at-test.true c.next-at.ensures.0

pub loop-at-preserved : goal.loop-at-preserved
loop-at-preserved g c =
    let e = c.next-at.ensures.1 c.loop-at.invariant.2 in
    (e.1, going_on _ _ _ _ c.loop-at.invariant.1 c.loop-at-test.true (rw c.if-test.false at c.test.ensures) c.next-at.ensures.0, e.0)

pub returns : goal.returns
returns g c = (going_end _ _ _ _ c.loop-at.invariant.1 c.loop-at-test.false, c.loop-at.invariant.0)

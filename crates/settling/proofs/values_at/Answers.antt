-- The slots up to i have their values.
use Rattle.laws.specs.Kit.{arith, length-set}
use Rattle.settling.proofs.Laws.{valued_none, valued_more, valued_all}
use Rattle.std.proofs.Common.{rules}
use Rattle.settling.proofs.values_at.Goals as goal

pub loop-i-init : goal.loop-i-init
loop-i-init c = (valued_none _ _ _ _, search rules)

pub value_at-requires : goal.value_at-requires
value_at-requires c =
    let p = c.requires in
    (p.0, p.1, c.link_series-buckets.ensures.links, c.loop-i-test.true, p.2)

pub loop-i-preserved : goal.loop-i-preserved
loop-i-preserved c =
    let v = c.loop-i.invariant in
    (valued_more _ _ _ _ _ (omega (arith, v.1)) c.value_at.ensures v.0, rw length-set v.1)

pub returns : goal.returns
returns c = let v = c.loop-i.invariant in valued_all _ _ _ _ _ _ (omega arith) c.loop-i-test.false v.0

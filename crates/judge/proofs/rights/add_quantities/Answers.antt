-- Below k each sum has its quantity added; from k on the sums are as they were.
use Rattle.std.specs.Prelude.{◌≡◌}
use Rattle.laws.specs.Kit.{arith, refl}
use Rattle.judge.proofs.Laws.Sums.{added_none, added_more, rest_more, no_overflow}
use Rattle.judge.proofs.rights.add_quantities.Goals as goal

pub loop-k-init : goal.loop-k-init
loop-k-init c = (refl, added_none _ _ _)

pub overflow_add-sums : goal.overflow_add-sums
overflow_add-sums c =
    let h = no_overflow c.loop-k.k c.args.sums.now c.loop-k.sums c.loop-k.invariant.0 c.loop-k-test.true c.requires c.quantity.result (omega arith) in
    omega (arith, h)

pub loop-k-preserved : goal.loop-k-preserved
loop-k-preserved c =
    let i = c.loop-k.invariant in
    let a = c.args.sums.now in (
      rest_more c.loop-k.k a c.loop-k.sums i.0 _,
      added_more c.loop-k.k a c.loop-k.sums i.0 c.loop-k-test.true c.requires c.quantity.result (omega arith) _ _ i.1 refl c.quantity.ensures,
    )

pub returns : goal.returns
returns c = let e : c.loop-k.k ≡ 100 = omega arith in rw e at c.loop-k.invariant.1

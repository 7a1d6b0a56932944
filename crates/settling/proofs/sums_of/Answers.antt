-- The sums of the slots up to i, each of which adds less than 2 to the 32.
use Rattle.laws.specs.Kit.{arith, refl}
use Rattle.settling.proofs.Laws.{side_none, side_more, side_all}
use Rattle.settling.proofs.sums_of.Goals as goal

pub loop-i-init : goal.loop-i-init
loop-i-init c = (side_none _ _ _ _, side_none _ _ _ _, omega arith, omega arith)

pub overflow_add-bought : goal.overflow_add-bought
overflow_add-bought c = omega (arith, c.share-bought.ensures.1)

pub overflow_add-sold : goal.overflow_add-sold
overflow_add-sold c = omega (arith, c.share-sold.ensures.1)

pub loop-i-preserved : goal.loop-i-preserved
loop-i-preserved c =
    let v = c.loop-i.invariant in (
      side_more _ _ _ _ _ v.0 c.block_at-x.ensures c.in_party.ensures refl c.share-bought.ensures.0,
      side_more _ _ _ _ _ v.1 c.block_at-x.ensures c.out_party.ensures refl c.share-sold.ensures.0,
      omega (arith, c.share-bought.ensures.1),
      omega (arith, c.share-sold.ensures.1),
    )

pub returns : goal.returns
returns c =
    let v = c.loop-i.invariant in
    let l = c.loop-i-test.false in
    (refl, side_all _ _ _ _ _ _ (omega arith) l v.0, side_all _ _ _ _ _ _ (omega arith) l v.1, omega arith, omega arith)

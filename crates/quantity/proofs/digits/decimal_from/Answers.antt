-- The number so far and the digits ahead say what all digits say, and i digits stay below 10 to the i.
use Rattle.laws.specs.Kit.{arith}
use Rattle.quantity.proofs.Laws.Reading.{each_digit, decimal_turn, decimal_end, small_turn, small_end}
use Rattle.quantity.proofs.digits.decimal_from.Goals as goal

pub overflow_mul-a : goal.overflow_mul-a
overflow_mul-a c = let l = c.loop-x in omega (arith, small_end l.x-index l.a (omega arith) l.invariant.0)

pub digit_value-requires : goal.digit_value-requires
digit_value-requires c = each_digit _ _ c.loop-x-test.true c.requires.1

pub overflow_add-a : goal.overflow_add-a
overflow_add-a c = let l = c.loop-x in omega (arith, small_end l.x-index l.a (omega arith) l.invariant.0)

pub loop-x-preserved : goal.loop-x-preserved
loop-x-preserved c =
    let d = c.digit_value in
    let l = c.loop-x in
    (small_turn _ _ _ l.invariant.0 d.ensures.1, decimal_turn c.args.s.now l.x-index l.a d.result c.loop-x-test.true d.ensures.0 l.invariant.1)

pub returns : goal.returns
returns c =
    let l = c.loop-x in
    (decimal_end c.args.s.now l.x-index l.a c.loop-x-test.false l.invariant.1, small_end l.x-index _ (omega arith) l.invariant.0)

-- The code asks the definition's three questions; past them at most three digits are left, so every sum and product fits.
use Rattle.std.specs.Prelude.{◌≤◌}
use Rattle.laws.specs.Kit.{arith, ◌∙◌, length, take_all, and_no_left, and_no_right, upto_false, is_other}
use Rattle.quantity.proofs.Laws.Reading.{point_refused, point_read, product_small}
use Rattle.quantity.proofs.past_point.Goals as goal

pub returns-then-m-lt1 : goal.returns-then-m-lt1
returns-then-m-lt1 c =
    point_refused _ _ c.leading_digits-m.ensures.0 _ (and_no_left _ _ (and_no_left _ _ (upto_false _ _ (omega arith))))

pub returns-then-m-gt3 : goal.returns-then-m-gt3
returns-then-m-gt3 c =
    point_refused _ _ c.leading_digits-m.ensures.0 _ (and_no_left _ _ (and_no_right _ _ (upto_false _ _ (omega arith))))

pub returns-then-m-s : goal.returns-then-m-s
returns-then-m-s c =
    point_refused _ _ c.leading_digits-m.ensures.0 _ (and_no_right _ _ (is_other _ _ c.if-m-s.true))

pub decimal_from-requires : goal.decimal_from-requires
decimal_from-requires c =
    let h : length c.args.s.now ≤ c.leading_digits-m.result = omega arith in
    (omega arith, rw (take_all _ _ h) at c.leading_digits-m.ensures.2)

pub returns : goal.returns
returns c =
    point_read _ _ c.leading_digits-m.ensures.0 _ (omega arith) (omega arith) (omega arith) _ _ c.decimal_from.ensures.0 c.worth.ensures.0

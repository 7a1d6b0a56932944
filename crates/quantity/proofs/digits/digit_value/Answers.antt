-- A digit is 48 to 57, so 48 can be taken off, and less than 10 is left.
use Rattle.laws.specs.Kit.{arith, and_left, and_right, upto_yes}
use Rattle.paper.specs.Ids.{digit}
use Rattle.std.proofs.Common.{rules}
use Rattle.quantity.proofs.digits.digit_value.Goals as goal

pub overflow_sub-result : goal.overflow_sub-result
unfolding digit
overflow_sub-result c = omega (arith, upto_yes _ _ (and_left _ _ c.requires))

pub returns : goal.returns
unfolding digit
returns c = (search rules, omega (arith, upto_yes _ _ (and_right _ _ c.requires)))

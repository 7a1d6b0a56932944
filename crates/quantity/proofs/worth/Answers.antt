-- The code asks the definition's questions in the definition's order.
use Rattle.laws.specs.Kit.{is_equal, is_other}
use Rattle.paper.specs.QuantityText.{worth}
use Rattle.std.proofs.Common.{rules}
use Rattle.quantity.proofs.worth.Goals as goal

pub returns-then-m-eq1 : goal.returns-then-m-eq1
unfolding worth
returns-then-m-eq1 c = (rw (is_equal _ _ c.if-m-eq1.true), search rules)

pub returns-then-m-eq2 : goal.returns-then-m-eq2
unfolding worth
returns-then-m-eq2 c = (rw (is_other _ _ c.if-m-eq1.false, is_equal _ _ c.if-m-eq2.true), search rules)

pub returns : goal.returns
unfolding worth
returns c = (rw (is_other _ _ c.if-m-eq1.false, is_other _ _ c.if-m-eq2.false), search rules)

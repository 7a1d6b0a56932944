-- Past the test the first lies before the last, and both lie in a block.
use Rattle.laws.specs.Kit.{arith, ◌and◌, less, upto}
use Rattle.message_text.specs.MessageText.{between}
use Rattle.message_text.proofs.Laws.Fields.{inside}
use Rattle.message_text.proofs.fill.between.Goals as goal

pub overflow_add-result : goal.overflow_add-result
unfolding ◌and◌ less upto
overflow_add-result c = let a = c.args in let h = inside a.first a.last c.if-first-last.true in omega (arith, h.1)

pub overflow_sub-result : goal.overflow_sub-result
unfolding ◌and◌ less upto
overflow_sub-result c = let a = c.args in let h = inside a.first a.last c.if-first-last.true in omega (arith, h.0)

pub returns-then-first-last : goal.returns-then-first-last
unfolding between ◌and◌ less upto
returns-then-first-last c = let a = c.args in let h = inside a.first a.last c.if-first-last.true in (rw c.if-first-last.true, omega (arith, h.0, h.1))

pub returns : goal.returns
unfolding between ◌and◌ less upto
returns c = (rw c.if-first-last.false, omega arith)

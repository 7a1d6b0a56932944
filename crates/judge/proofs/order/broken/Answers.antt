-- The branch is the definition's, and a number that is not 0 a refusal's.
use Rattle.laws.specs.Kit.{refl}
use Rattle.paper.specs.Rules.{broken}
use Rattle.judge.proofs.Laws.Order.{gives_fine, gives_refusal}
use Rattle.judge.proofs.order.broken.Goals as goal

pub returns-then-test-clause-verdict : goal.returns-then-test-clause-verdict
unfolding broken
returns-then-test-clause-verdict c = rw c.if-test.true c.verdict_of.ensures

pub returns-then-test-clause-gives : goal.returns-then-test-clause-gives
unfolding broken
returns-then-test-clause-gives c n = rw c.if-test.true (gives_refusal c.verdict_of.ensures n)

pub returns-clause-verdict : goal.returns-clause-verdict
unfolding broken
returns-clause-verdict c = rw c.if-test.false refl

pub returns-clause-gives : goal.returns-clause-gives
unfolding broken
returns-clause-gives c n = rw c.if-test.false (gives_fine refl)

-- The two states that have a code, and the rest.
use Rattle.laws.specs.Tests.Laws.{is_equal, is_other}
use Rattle.paper.specs.Marks.{state_code}
use Rattle.codes.proofs.state_code.Goals as goal

pub returns-then-state-eq1 : goal.returns-then-state-eq1
unfolding state_code
returns-then-state-eq1 c = rw (is_equal _ 1 c.if-state-eq1.true)

pub returns-then-state-eq3 : goal.returns-then-state-eq3
unfolding state_code
returns-then-state-eq3 c = rw (is_other _ 1 c.if-state-eq1.false, is_equal _ 3 c.if-state-eq3.true)

pub returns : goal.returns
unfolding state_code
returns c = rw (is_other _ 1 c.if-state-eq1.false, is_other _ 3 c.if-state-eq3.false)

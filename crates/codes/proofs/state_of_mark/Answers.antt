-- A count says that they differ; without one the partner says whether there is a counterpart.
use Rattle.laws.specs.Tests.Laws.{is_equal, is_other}
use Rattle.paper.specs.Marks.{state_of_mark}
use Rattle.codes.proofs.state_of_mark.Goals as goal

pub returns-then-differing-ne0 : goal.returns-then-differing-ne0
unfolding state_of_mark
returns-then-differing-ne0 c = rw (is_other _ 0 c.if-differing-ne0.true)

pub returns-then-partner-eq0 : goal.returns-then-partner-eq0
unfolding state_of_mark
returns-then-partner-eq0 c = rw (is_equal _ 0 c.if-differing-ne0.false, is_equal _ 0 c.if-partner-eq0.true)

pub returns : goal.returns
unfolding state_of_mark
returns c = rw (is_equal _ 0 c.if-differing-ne0.false, is_other _ 0 c.if-partner-eq0.false)

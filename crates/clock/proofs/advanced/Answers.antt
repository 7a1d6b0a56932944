-- The test is the definition's, and so are the two answers.
use Rattle.laws.specs.Kit.{sym, ◌or◌, neg, less}
use Rattle.paper.specs.Clock.{advanced}
use Rattle.clock.proofs.advanced.Goals as goal

pub returns-then-minute-day : goal.returns-then-minute-day
unfolding advanced ◌or◌ neg less
returns-then-minute-day c = rw (sym c.clock_allowed.ensures, c.if-minute-day.true)

pub returns : goal.returns
unfolding advanced ◌or◌ neg less
returns c = rw (sym c.clock_allowed.ensures, c.if-minute-day.false)

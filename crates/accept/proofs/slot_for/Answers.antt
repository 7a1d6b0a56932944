-- A sender with no slot gets the one behind the used.
use Rattle.laws.specs.Kit.{is}
use Rattle.accept.proofs.slot_for.Goals as goal

pub returns-then-eq : goal.returns-then-eq
unfolding is
returns-then-eq c = rw (← c.if-eq.ensures)

pub returns-else-eq : goal.returns-else-eq
unfolding is
returns-else-eq c = rw (← c.if-eq.ensures)

-- The quantities are added, or the sums are as they were.
use Rattle.judge.proofs.Laws.Sums.{added_still}
use Rattle.judge.proofs.rights.add_if.Goals as goal

pub add_quantities-requires : goal.add_quantities-requires
add_quantities-requires c = c.requires

pub returns-then-on : goal.returns-then-on
returns-then-on c = rw c.if-on.true c.add_quantities.ensures

pub returns-else-on : goal.returns-else-on
returns-else-on c = rw c.if-on.false (added_still _ _ _)

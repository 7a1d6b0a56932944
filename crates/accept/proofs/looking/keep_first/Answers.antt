-- A row is written where it has no slot yet, and stays else.
use Rattle.accept.proofs.Laws.Looking.{first_new, first_stays}
use Rattle.accept.proofs.looking.keep_first.Goals as goal

pub returns-then-row-number-eq0 : goal.returns-then-row-number-eq0
returns-then-row-number-eq0 c = first_new _ _ _ c.if-row-number-eq0.true

pub returns-else-row-number-eq0 : goal.returns-else-row-number-eq0
returns-else-row-number-eq0 c = first_stays _ _ _ c.if-row-number-eq0.false

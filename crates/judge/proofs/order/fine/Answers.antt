-- It is the definition's.
use Rattle.judge.proofs.order.fine.Goals as goal

pub returns : goal.returns
returns c = c.verdict_of.ensures

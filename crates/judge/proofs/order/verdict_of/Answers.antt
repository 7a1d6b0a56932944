-- The code is the table's, as the definition has it.
use Rattle.judge.proofs.order.verdict_of.Goals as goal

pub returns : goal.returns
returns c = rw c.reason_code.ensures

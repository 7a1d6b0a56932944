-- No position passed by is refused, so that the first that is decides, and the end too.
use Rattle.std.proofs.Common.{rules}
use Rattle.judge.proofs.Laws.Order.{positions_start, positions_go, positions_hit, positions_end}
use Rattle.judge.proofs.positions.first_refused.Goals as goal

pub loop-k-init : goal.loop-k-init
loop-k-init c = positions_start _

pub returns-in_err-quantity_at : goal.returns-in_err-quantity_at
returns-in_err-quantity_at c = positions_hit _ _ c.loop-k.invariant c.loop-k-test.true c.in_err-quantity_at.ensures (search rules)

pub loop-k-preserved : goal.loop-k-preserved
loop-k-preserved c = positions_go _ _ c.loop-k.invariant c.loop-k-test.true c.in_ok-quantity_at.ensures

pub returns : goal.returns
returns c = positions_end _ _ c.loop-k.invariant c.loop-k-test.false

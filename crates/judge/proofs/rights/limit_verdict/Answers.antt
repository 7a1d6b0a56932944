-- No position passed by is refused, so that the first that is decides, and the end too.
use Rattle.std.proofs.Common.{rules}
use Rattle.judge.specs.Order.{limit_by}
use Rattle.judge.proofs.Laws.Order.{gives_by, positions_start, positions_go, positions_hit, positions_end}
use Rattle.judge.proofs.rights.limit_verdict.Goals as goal

pub loop-k-init : goal.loop-k-init
loop-k-init c = positions_start _

pub returns-in_err-broken : goal.returns-in_err-broken
unfolding limit_by
returns-in_err-broken c = positions_hit _ _ c.loop-k.invariant c.loop-k-test.true (gives_by 18 _ _ c.in_err-broken.ensures.gives c.rule_19.ensures) (search rules)

pub loop-k-preserved : goal.loop-k-preserved
unfolding limit_by
loop-k-preserved c = positions_go _ _ c.loop-k.invariant c.loop-k-test.true (gives_by 18 _ _ c.in_ok-broken.ensures.gives c.rule_19.ensures)

pub returns : goal.returns
returns c = positions_end _ _ c.loop-k.invariant c.loop-k-test.false

-- No position passed by is refused, and past the first open one none can be.
use Rattle.std.proofs.Common.{rules}
use Rattle.laws.specs.Kit.{◌∙◌, sym}
use Rattle.paper.specs.Rules.{closed_verdict}
use Rattle.judge.proofs.Laws.Order.{closed_rest, gives_by, gives_fine, positions_start, positions_go, positions_hit, positions_end}
use Rattle.judge.proofs.positions.closed_verdict.Goals as goal

pub loop-k-init : goal.loop-k-init
loop-k-init c = positions_start _

pub returns-then-not-closed : goal.returns-then-not-closed
returns-then-not-closed c = gives_fine (sym (closed_rest _ _ _ _ _ c.loop-k.invariant (sym c.closed.ensures ∙ c.if-not-closed.true)))

pub returns-in_err-broken : goal.returns-in_err-broken
unfolding closed_verdict
returns-in_err-broken c = positions_hit _ _ c.loop-k.invariant c.loop-k-test.true (gives_by 13 _ _ c.in_err-broken.ensures.gives c.rule_14.ensures) (search rules)

pub loop-k-preserved : goal.loop-k-preserved
unfolding closed_verdict
loop-k-preserved c = positions_go _ _ c.loop-k.invariant c.loop-k-test.true (gives_by 13 _ _ c.in_ok-broken.ensures.gives c.rule_14.ensures)

pub returns : goal.returns
returns c = positions_end _ _ c.loop-k.invariant c.loop-k-test.false

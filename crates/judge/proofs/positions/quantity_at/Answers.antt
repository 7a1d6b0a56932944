-- The three rules come in the definition's order.
use Rattle.std.proofs.Common.{rules}
use Rattle.paper.specs.Rules.{quantity_verdict}
use Rattle.judge.proofs.Laws.Order.{gives_by, gives_hit, gives_pass}
use Rattle.judge.proofs.positions.quantity_at.Goals as goal

pub returns-in_err-broken : goal.returns-in_err-broken
unfolding quantity_verdict
returns-in_err-broken c = gives_hit _ (gives_by 10 _ _ c.in_err-broken.ensures.gives c.rule_11.ensures) (search rules)

pub returns-in_err-broken-2 : goal.returns-in_err-broken-2
unfolding quantity_verdict
returns-in_err-broken-2 c =
    gives_pass (gives_by 10 _ _ c.in_ok-broken.ensures.gives c.rule_11.ensures) (gives_hit _ (gives_by 11 _ _ c.in_err-broken-2.ensures.gives c.rule_12.ensures) (search rules))

pub returns : goal.returns
unfolding quantity_verdict
returns c =
    gives_pass (gives_by 10 _ _ c.in_ok-broken.ensures.gives c.rule_11.ensures)
    (gives_pass (gives_by 11 _ _ c.in_ok-broken-2.ensures.gives c.rule_12.ensures) (gives_by 12 _ _ c.broken-3.ensures.gives c.rule_13.ensures))

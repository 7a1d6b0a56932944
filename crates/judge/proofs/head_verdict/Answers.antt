-- The rules come in the definition's order.
use Rattle.std.proofs.Common.{rules}
use Rattle.paper.specs.Rules.{head_verdict}
use Rattle.judge.proofs.Laws.Order.{gives_by, gives_hit, gives_pass}
use Rattle.judge.proofs.head_verdict.Goals as goal

pub returns-in_err-broken : goal.returns-in_err-broken
unfolding head_verdict
returns-in_err-broken c = gives_hit _ (gives_by 2 _ _ c.in_err-broken.ensures.gives c.rule_3.ensures) (search rules)

pub returns-in_err-sender_verdict : goal.returns-in_err-sender_verdict
unfolding head_verdict
returns-in_err-sender_verdict c =
    gives_pass (gives_by 2 _ _ c.in_ok-broken.ensures.gives c.rule_3.ensures) (gives_hit _ c.in_err-sender_verdict.ensures (search rules))

pub returns-in_err-broken-2 : goal.returns-in_err-broken-2
unfolding head_verdict
returns-in_err-broken-2 c =
    gives_pass (gives_by 2 _ _ c.in_ok-broken.ensures.gives c.rule_3.ensures)
    (gives_pass c.in_ok-sender_verdict.ensures (gives_hit _ (gives_by 4 _ _ c.in_err-broken-2.ensures.gives c.rule_5.ensures) (search rules)))

pub returns : goal.returns
unfolding head_verdict
returns c =
    gives_pass (gives_by 2 _ _ c.in_ok-broken.ensures.gives c.rule_3.ensures)
    (gives_pass c.in_ok-sender_verdict.ensures (gives_pass (gives_by 4 _ _ c.in_ok-broken-2.ensures.gives c.rule_5.ensures) (gives_by 5 _ _ c.broken-3.ensures.gives c.rule_6.ensures)))

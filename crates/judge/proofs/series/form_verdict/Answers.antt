-- The rules come in the definition's order.
use Rattle.std.proofs.Common.{rules}
use Rattle.judge.specs.Order.{form_by}
use Rattle.judge.proofs.Laws.Order.{gives_by, gives_hit, gives_pass}
use Rattle.judge.proofs.series.form_verdict.Goals as goal

pub returns-in_err-broken : goal.returns-in_err-broken
unfolding form_by
returns-in_err-broken c = gives_hit _ (gives_by 6 _ _ c.in_err-broken.ensures.gives c.rule_7.ensures) (search rules)

pub returns-in_err-parties_verdict : goal.returns-in_err-parties_verdict
unfolding form_by
returns-in_err-parties_verdict c =
    gives_pass (gives_by 6 _ _ c.in_ok-broken.ensures.gives c.rule_7.ensures) (gives_hit _ c.in_err-parties_verdict.ensures (search rules))

pub returns-in_err-broken-2 : goal.returns-in_err-broken-2
unfolding form_by
returns-in_err-broken-2 c =
    gives_pass (gives_by 6 _ _ c.in_ok-broken.ensures.gives c.rule_7.ensures)
    (gives_pass c.in_ok-parties_verdict.ensures (gives_hit _ (gives_by 8 _ _ c.in_err-broken-2.ensures.gives c.rule_9.ensures) (search rules)))

pub returns : goal.returns
unfolding form_by
returns c =
    gives_pass (gives_by 6 _ _ c.in_ok-broken.ensures.gives c.rule_7.ensures)
    (gives_pass c.in_ok-parties_verdict.ensures (gives_pass (gives_by 8 _ _ c.in_ok-broken-2.ensures.gives c.rule_9.ensures) (gives_by 9 _ _ c.broken-3.ensures.gives c.rule_10.ensures)))

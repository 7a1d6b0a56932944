-- Rule 14 comes first, then 15.
use Rattle.std.proofs.Common.{rules}
use Rattle.paper.specs.Rules.{late_verdict}
use Rattle.judge.proofs.Laws.Order.{gives_by, gives_hit, gives_pass}
use Rattle.judge.proofs.series.late_verdict.Goals as goal

pub returns-in_err-closed_verdict : goal.returns-in_err-closed_verdict
unfolding late_verdict
returns-in_err-closed_verdict c = gives_hit _ c.in_err-closed_verdict.ensures (search rules)

pub returns : goal.returns
unfolding late_verdict
returns c = gives_pass c.in_ok-closed_verdict.ensures (gives_by 14 _ _ c.broken.ensures.gives c.rule_15.ensures)

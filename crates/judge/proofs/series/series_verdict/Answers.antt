-- A refusal of form ends it.
use Rattle.std.proofs.Common.{rules}
use Rattle.judge.specs.Order.{series_by}
use Rattle.judge.proofs.Laws.Order.{gives_hit, gives_pass}
use Rattle.judge.proofs.series.series_verdict.Goals as goal

pub returns-in_err-form_verdict : goal.returns-in_err-form_verdict
unfolding series_by
returns-in_err-form_verdict c = gives_hit _ c.in_err-form_verdict.ensures (search rules)

pub returns : goal.returns
unfolding series_by
returns c = gives_pass c.in_ok-form_verdict.ensures c.values_verdict.ensures

-- The three come in the definition's order.
use Rattle.std.proofs.Common.{rules}
use Rattle.laws.specs.Kit.{ap, ◌∙◌}
use Rattle.paper.specs.Book.{numbered}
use Rattle.judge.specs.Order.{values_by}
use Rattle.judge.proofs.Laws.Order.{gives_hit, gives_pass}
use Rattle.judge.proofs.series.values_verdict.Goals as goal

pub returns-in_err-quantity_verdict : goal.returns-in_err-quantity_verdict
unfolding values_by
returns-in_err-quantity_verdict c = gives_hit _ (rw c.n_of-n.ensures at c.in_err-quantity_verdict.ensures) (search rules)

pub returns-in_err-right_verdict : goal.returns-in_err-right_verdict
unfolding values_by
returns-in_err-right_verdict c =
    gives_pass (rw c.n_of-n.ensures at c.in_ok-quantity_verdict.ensures) (gives_hit _ (rw c.n_of-n.ensures at c.in_err-right_verdict.ensures) (search rules))

pub returns : goal.returns
unfolding values_by
returns c =
    gives_pass (rw c.n_of-n.ensures at c.in_ok-quantity_verdict.ensures)
    (gives_pass (rw c.n_of-n.ensures at c.in_ok-right_verdict.ensures) (rw (c.numbered-x.ensures ∙ ap (numbered _) c.wide.ensures) at c.late_verdict.ensures))

-- On no right there is nothing to ask; without its right the series is refused; else its sums decide.
use Rattle.std.proofs.Common.{rules}
use Rattle.laws.specs.Kit.{◌∙◌, sym, ap}
use Rattle.paper.specs.Book.{numbered}
use Rattle.judge.specs.Order.{right_by}
use Rattle.judge.proofs.Laws.Order.{gives_by, gives_hit, gives_pass}
use Rattle.judge.proofs.Laws.Rights.{right_none}
use Rattle.judge.proofs.rights.right_verdict.Goals as goal

pub returns-then-not-with_capacity : goal.returns-then-not-with_capacity
returns-then-not-with_capacity c = right_none _ _ _ _ _ _ (sym c.with_capacity.ensures ∙ c.if-not-with_capacity.true)

pub returns-in_err-broken : goal.returns-in_err-broken
unfolding right_by
returns-in_err-broken c = gives_hit _ (gives_by 17 _ _ c.in_err-broken.ensures.gives c.rule_18.ensures) (search rules)

pub returns : goal.returns
unfolding right_by
returns c =
    gives_pass (gives_by 17 _ _ c.in_ok-broken.ensures.gives c.rule_18.ensures) (rw (c.numbered.ensures ∙ ap (numbered _) c.wide.ensures) at c.limit_verdict.ensures)

-- Where all quantities are allowed no position is refused; else the first that is decides.
use Rattle.laws.specs.Kit.{sym, ◌∙◌}
use Rattle.judge.proofs.Laws.Order.{gives_fine}
use Rattle.judge.proofs.Laws.Quantities.{all_allowed}
use Rattle.judge.proofs.positions.quantity_verdict.Goals as goal

pub returns-then-n-gt100 : goal.returns-then-n-gt100
returns-then-n-gt100 c = c.first_refused.ensures

pub returns-then-quantities_allowed : goal.returns-then-quantities_allowed
returns-then-quantities_allowed c = gives_fine (sym (all_allowed _ _ _ (sym c.quantities_allowed.ensures ∙ c.if-quantities_allowed.true)))

pub returns : goal.returns
returns c = c.first_refused-2.ensures

-- A number's text is as many of its last digits as it has digits.
use Rattle.laws.specs.Kit.{sym, ◌∙◌}
use Rattle.paper.specs.QuantityText.{decimal}
use Rattle.quantity.proofs.Laws.Printing.{last_digits_length}
use Rattle.std.proofs.Common.{rules}
use Rattle.quantity.proofs.decimal.Goals as goal

pub returns : goal.returns
unfolding decimal
returns c =
    let w = c.width_of-k in
    (w.ensures.0 ∙ sym (last_digits_length _ _), search rules, rw (← w.ensures.0) c.put_last_digits.ensures)

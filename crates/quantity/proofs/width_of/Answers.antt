-- The definition's questions are those of the count of digits.
use Rattle.laws.specs.Kit.{sym, ◌∙◌}
use Rattle.quantity.proofs.Laws.Printing.{width_places}
use Rattle.quantity.proofs.width_of.Goals as goal

pub returns : goal.returns
returns c = (c.places.ensures.0 ∙ sym (width_places _), c.places.ensures.1)

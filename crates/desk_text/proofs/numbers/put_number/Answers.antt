-- As many of its last digits as it has digits are the number.
use Rattle.laws.specs.Kit.{ap}
use Rattle.paper.specs.QuantityText.{last_digits}
use Rattle.desk_text.specs.Numbers.{number_text}
use Rattle.desk_text.specs.Put.Laws.{called}
use Rattle.desk_text.proofs.numbers.put_number.Goals as goal

pub returns : goal.returns
unfolding number_text
returns c = called _ (ap (λ k. last_digits k c.args.x) c.places.ensures.0) c.put_digits.ensures

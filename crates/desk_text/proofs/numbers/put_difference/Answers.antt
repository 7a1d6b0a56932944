-- A minus stands in front of what is missing to the second number.
use Rattle.laws.specs.Kit.{less_true, less_false}
use Rattle.desk_text.specs.Numbers.{difference_text}
use Rattle.desk_text.specs.Put.Laws.{then}
use Rattle.desk_text.proofs.numbers.put_difference.Goals as goal

pub returns-then-a-b : goal.returns-then-a-b
unfolding difference_text
returns-then-a-b c =
    rw (less_true _ _ c.if-a-b.true) (then c.put-minus.ensures c.put_number.ensures)

pub returns : goal.returns
unfolding difference_text
returns c = rw (less_false _ _ c.if-a-b.false) c.put_number-2.ensures

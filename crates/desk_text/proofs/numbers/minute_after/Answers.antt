-- The code asks what the definition asks.
use Rattle.laws.specs.Kit.{less_true, less_false}
use Rattle.desk_text.specs.Numbers.{minute_after}
use Rattle.desk_text.proofs.numbers.minute_after.Goals as goal

pub returns-then-x-gt1500 : goal.returns-then-x-gt1500
unfolding minute_after
returns-then-x-gt1500 c = rw (less_true _ _ c.if-x-gt1500.true)

pub returns : goal.returns
unfolding minute_after
returns c = rw (less_false _ _ c.if-x-gt1500.false)

-- The code asks what the definition asks.
use Rattle.laws.specs.Kit.{less_true, less_false}
use Rattle.desk_text.specs.Numbers.{minute_before}
use Rattle.desk_text.proofs.numbers.minute_before.Goals as goal

pub returns-then-x-gt10080 : goal.returns-then-x-gt10080
unfolding minute_before
returns-then-x-gt10080 c = rw (less_true _ _ c.if-x-gt10080.true)

pub returns : goal.returns
unfolding minute_before
returns c = rw (less_false _ _ c.if-x-gt10080.false)

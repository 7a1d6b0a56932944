-- The code asks the definition's question.
use Rattle.laws.specs.Kit.{arith, less_true, less_false}
use Rattle.stream.specs.Line.{hex_digit}
use Rattle.stream.proofs.line.hex_digit.Goals as goal

pub returns-then-x-lt10 : goal.returns-then-x-lt10
unfolding hex_digit
returns-then-x-lt10 c = rw (less_true _ _ c.if-x-lt10.true)

pub returns-else-x-lt10 : goal.returns-else-x-lt10
unfolding hex_digit
returns-else-x-lt10 c = rw (less_false _ _ c.if-x-lt10.false) (omega arith)

-- The test is the definition's.
use Rattle.laws.specs.Kit.{arith, less_true, less_false}
use Rattle.reader.specs.Walk.{following}
use Rattle.reader.proofs.following.Goals as goal

pub returns-then-number-lt201 : goal.returns-then-number-lt201
unfolding following
returns-then-number-lt201 c = rw (less_true c.args.number 201 (omega (arith, c.if-number-lt201.true)))

pub returns : goal.returns
unfolding following
returns c = rw (less_false c.args.number 201 (omega (arith, c.if-number-lt201.false)))

-- The number of four bytes is the sum of their values at powers of 256.
use Rattle.laws.specs.Kit.{arith}
use Rattle.laws.specs.Bytes.Laws.{number_4}
use Rattle.block.proofs.numbers.whole_4.Goals as goal

pub returns : goal.returns
returns c = let a = c.args in omega (arith, number_4 a.at a.s.now)

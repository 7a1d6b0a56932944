-- The number of four bytes is the sum of their values at powers of 256, and a byte past the end counts as 0.
use Rattle.std.specs.Prelude.{◌≤◌}
use Rattle.laws.specs.Kit.{length, arith, get_or-eq_default}
use Rattle.laws.specs.Bytes.Laws.{number_1, number_4}
use Rattle.block.proofs.numbers.first_4.Goals as goal

pub returns-then-s-lt4 : goal.returns-then-s-lt4
returns-then-s-lt4 c = let s = c.args.s.now in
    let h : length s ≤ 3 = omega arith in
    omega (arith, number_4 0 s, number_1 0 s, number_1 1 s, number_1 2 s, get_or-eq_default s 0 {n = 3} h)

pub returns : goal.returns
returns c = c.whole_4.ensures

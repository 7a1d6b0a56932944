-- The number of two bytes is its first byte and 256 times its second, which counts as 0 past the end.
use Rattle.std.specs.Prelude.{◌≤◌}
use Rattle.laws.specs.Kit.{length, arith, get_or-eq_default}
use Rattle.laws.specs.Bytes.Laws.{number_1, number_2}
use Rattle.block.proofs.numbers.first_2.Goals as goal

pub returns-then-s-lt2 : goal.returns-then-s-lt2
returns-then-s-lt2 c = let s = c.args.s.now in
    let h : length s ≤ 1 = omega arith in
    omega (arith, number_2 0 s, number_1 0 s, get_or-eq_default s 0 {n = 1} h)

pub returns : goal.returns
returns c = omega (arith, number_2 0 c.args.s.now)

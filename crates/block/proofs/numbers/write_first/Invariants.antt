use Rattle.std.specs.Prelude.{◌≡◌}
use Rattle.laws.specs.Kit.{length, drop}
use Rattle.laws.specs.Bytes.{written}
use Rattle.block.proofs.numbers.write_first.Given as goal

abbrev pub invariant-loop-i : goal.invariant-loop-i
invariant-loop-i l = (length l.s ≡ length l.initial.s) × (written l.i (drop l.i l.v) l.s ≡ written 0 l.v l.initial.s)

use Rattle.std.specs.Prelude.{◌≡◌, ◌*◌}
use Rattle.laws.specs.Kit.{length, drop}
use Rattle.paper.specs.Check.{check_from}
use Rattle.block.proofs.check.check_bytes.Given as goal

abbrev pub invariant-loop-four : goal.invariant-loop-four
invariant-loop-four l = check_from l.c (drop (4 * length l.yielded) l.s) ≡ check_from 0 l.s

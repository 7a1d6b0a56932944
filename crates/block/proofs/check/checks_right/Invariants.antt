use Rattle.std.specs.Prelude.{◌≡◌, ◌*◌}
use Rattle.laws.specs.Kit.{length, drop, ◌and◌}
use Rattle.laws.specs.Lists.{every}
use Rattle.laws.specs.Cut.{cut}
use Rattle.paper.specs.Check.{check_right}
use Rattle.block.proofs.check.checks_right.Given as goal

abbrev pub invariant-loop-four : goal.invariant-loop-four
invariant-loop-four l = (l.right and every check_right (cut 512 (drop (2048 * length l.yielded) l.s))) ≡ every check_right (cut 512 l.s)

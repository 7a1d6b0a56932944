use Rattle.std.specs.Prelude.{◌≡◌}
use Rattle.laws.specs.Kit.{drop}
use Rattle.paper.specs.Check.{check_from}
use Rattle.block.proofs.check.check_from.Given as goal

abbrev pub invariant-loop-x : goal.invariant-loop-x
invariant-loop-x l = check_from l.c (drop l.x-index l.s) ≡ check_from l.check l.s

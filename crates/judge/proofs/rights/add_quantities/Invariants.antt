use Rattle.std.specs.Prelude.{◌≡◌}
use Rattle.laws.specs.Kit.{true, drop}
use Rattle.judge.specs.Sums.{Added}
use Rattle.judge.proofs.rights.add_quantities.Given as goal

abbrev pub invariant-loop-k : goal.invariant-loop-k
invariant-loop-k l = (drop l.k l.sums ≡ drop l.k l.initial.sums) × Added true l.k l.y l.initial.sums l.sums

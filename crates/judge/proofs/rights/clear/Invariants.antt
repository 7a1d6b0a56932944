use Rattle.judge.specs.Sums.{Cleared}
use Rattle.judge.proofs.rights.clear.Given as goal

abbrev pub invariant-loop-k : goal.invariant-loop-k
invariant-loop-k l = Cleared l.k l.sums

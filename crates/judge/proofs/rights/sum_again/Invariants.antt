use Rattle.laws.specs.Cut.{cut}
use Rattle.judge.specs.Sums.{SumsTo, AtMost}
use Rattle.judge.proofs.rights.sum_again.Given as goal

abbrev pub invariant-loop-j : goal.invariant-loop-j
invariant-loop-j l = SumsTo l.rights (cut 512 l.series) l.right l.j l.sums × AtMost l.j l.sums

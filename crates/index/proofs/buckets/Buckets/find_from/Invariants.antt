use Rattle.std.specs.Prelude.{◌≤◌}
use Rattle.index.specs.Ahead.{Ends}
use Rattle.index.specs.Linked.Laws.{Going, left}
use Rattle.index.proofs.buckets.Buckets.find_from.Given as goal

abbrev pub invariant-loop-at : goal.invariant-loop-at
invariant-loop-at g l = (l.at ≤ 1000) × Going l.self.nexts (goal.F-post g l.test) l.from l.at × Ends l.self.nexts l.at

abbrev pub decreases-loop-at : goal.decreases-loop-at
decreases-loop-at g l = left l.at

use Rattle.std.specs.Prelude.{◌≤◌, ◌+◌}
use Rattle.index.specs.Ahead.{Ends}
use Rattle.index.specs.Linked.Laws.{Counting, left}
use Rattle.index.proofs.buckets.Buckets.count.Given as goal

abbrev pub invariant-loop-at : goal.invariant-loop-at
invariant-loop-at l = (l.at ≤ 1000) × (l.n + left l.at ≤ 1000) × Counting l.self.heads l.self.nexts l.bucket l.n l.at × Ends l.self.nexts l.at

abbrev pub decreases-loop-at : goal.decreases-loop-at
decreases-loop-at l = left l.at

use Rattle.std.specs.Prelude.{◌<◌, IfSome}
use Rattle.std.specs.Option.{unwrap_or}
use Rattle.paper.specs.Layout.{quantities}
use Rattle.marks.proofs.Laws.{Found}
use Rattle.marks.proofs.compare.Given as goal

abbrev pub invariant-loop-k : goal.invariant-loop-k
invariant-loop-k l = Found (quantities l.a) (quantities l.b) l.k l.count (unwrap_or l.first 0) × IfSome l.first (λ v. 0 < v)

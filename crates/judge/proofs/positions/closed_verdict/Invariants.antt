use Rattle.std.specs.Prelude.{◌-◌, ◌≡◌}
use Rattle.laws.specs.Order.{along}
use Rattle.paper.specs.Rules.{closed_verdict, fine, number_of, over_positions}
use Rattle.judge.proofs.positions.closed_verdict.Given as goal

abbrev pub invariant-loop-k : goal.invariant-loop-k
invariant-loop-k l = over_positions (closed_verdict l.d l.x l.s l.y) ≡ along number_of fine (closed_verdict l.d l.x l.s l.y) (100 - l.k) l.k

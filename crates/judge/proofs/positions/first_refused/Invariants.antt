use Rattle.std.specs.Prelude.{◌-◌, ◌≡◌}
use Rattle.laws.specs.Order.{along}
use Rattle.paper.specs.Rules.{fine, number_of, over_positions, quantity_verdict}
use Rattle.judge.proofs.positions.first_refused.Given as goal

abbrev pub invariant-loop-k : goal.invariant-loop-k
invariant-loop-k l = over_positions (quantity_verdict l.n l.s l.y) ≡ along number_of fine (quantity_verdict l.n l.s l.y) (100 - l.k) l.k

use Rattle.std.specs.Prelude.{◌-◌, ◌≡◌}
use Rattle.laws.specs.Order.{along}
use Rattle.paper.specs.Rules.{fine, number_of, over_positions}
use Rattle.judge.specs.Order.{limit_by}
use Rattle.judge.proofs.rights.limit_verdict.Given as goal

abbrev pub invariant-loop-k : goal.invariant-loop-k
invariant-loop-k l = over_positions (limit_by l.n l.r l.sums l.s l.y) ≡ along number_of fine (limit_by l.n l.r l.sums l.s l.y) (100 - l.k) l.k

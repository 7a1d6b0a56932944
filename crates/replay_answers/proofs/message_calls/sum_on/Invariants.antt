use Rattle.std.specs.Prelude.{◌≡◌, ◌≤◌}
use Rattle.laws.specs.Kit.{length, drop}
use Rattle.paper.specs.Check.{check_from}
use Rattle.replay_answers.proofs.message_calls.sum_on.Given as goal

abbrev pub invariant-loop-x : goal.invariant-loop-x
invariant-loop-x l = (l.x-index ≤ length l.series) × (check_from l.s (drop l.x-index l.series) ≡ check_from l.sum l.series)

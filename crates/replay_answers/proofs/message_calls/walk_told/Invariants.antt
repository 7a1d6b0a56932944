use Rattle.std.specs.Prelude.{◌≡◌, ◌<◌, ◌-◌}
use Rattle.replay_answers.specs.Answers.{walk_on}
use Rattle.replay_answers.proofs.message_calls.walk_told.Given as goal

abbrev pub invariant-loop-count : goal.invariant-loop-count
invariant-loop-count l = (l.sum < 4294967296) × (walk_on (200 - l.count) l.read l.count l.sum ≡ walk_on 200 l.read 0 0)

use Rattle.std.specs.Prelude.{◌≡◌, ◌≤◌}
use Rattle.laws.specs.Kit.{drop}
use Rattle.desk_text.specs.Arguments.{behind_last, folder_length}
use Rattle.desk_text.proofs.arguments.folder_length.Given as goal

abbrev pub invariant-loop-k : goal.invariant-loop-k
invariant-loop-k l = (l.at ≤ l.k) × (behind_last 47 l.k l.at (drop l.k l.path) ≡ folder_length l.path)

use Rattle.std.specs.Prelude.{◌≡◌}
use Rattle.laws.specs.Kit.{length, take}
use Rattle.paper.specs.Layout.{Bytes}
use Rattle.desk_text.specs.Put.{Put}
use Rattle.stream.specs.Line.{PutsEach, pieces}
use Rattle.stream.proofs.line.put_each.Given as goal

abbrev pub invariant-loop-x : goal.invariant-loop-x
invariant-loop-x g l =
    (length l.line ≡ length l.initial.line)
    × ((piece : _ → Bytes) → PutsEach piece (goal.F-post g l.put_one)
    → Put l.at (pieces piece (take l.x-index l.items)) l.place l.initial.line l.line)

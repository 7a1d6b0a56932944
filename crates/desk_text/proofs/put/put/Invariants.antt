use Rattle.std.specs.Prelude.{◌≡◌, ◌≤◌, ◌+◌}
use Rattle.laws.specs.Kit.{length, drop}
use Rattle.laws.specs.Bytes.{written}
use Rattle.desk_text.proofs.put.put.Given as goal

abbrev pub invariant-loop-i : goal.invariant-loop-i
invariant-loop-i l =
    (length l.line ≡ length l.initial.line) × (l.start + l.i ≤ length l.line) × (written (l.start + l.i) (drop l.i l.s) l.line ≡ written l.start l.s l.initial.line)

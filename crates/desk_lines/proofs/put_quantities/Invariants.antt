use Rattle.std.specs.Prelude.{◌≡◌}
use Rattle.laws.specs.Kit.{length}
use Rattle.desk_text.specs.Put.{Put}
use Rattle.desk_lines.specs.Lines.{quantities_text}
use Rattle.desk_lines.proofs.put_quantities.Given as goal

abbrev pub invariant-loop-k : goal.invariant-loop-k
invariant-loop-k l = (length l.line ≡ length l.initial.line) × Put l.initial.place (quantities_text l.q l.k) l.place l.initial.line l.line

use Rattle.std.specs.Prelude.{◌≡◌, ◌+◌, ◌-◌}
use Rattle.laws.specs.Kit.{length, drop}
use Rattle.laws.specs.Bytes.{written}
use Rattle.layout.specs.Written.{padded}
use Rattle.layout.proofs.write.write_field.Given as goal

abbrev pub invariant-loop-i : goal.invariant-loop-i
invariant-loop-i l = (length l.b ≡ length l.initial.b) × (written (l.at + l.i) (padded (l.i-end - l.i) (drop l.i l.v)) l.b ≡ written l.at (padded l.i-end l.v) l.initial.b)

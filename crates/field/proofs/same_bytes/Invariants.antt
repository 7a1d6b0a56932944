use Rattle.std.specs.Prelude.{◌≡◌, ◌≤◌}
use Rattle.laws.specs.Kit.{drop, ◌and◌}
use Rattle.laws.specs.Lists.{same}
use Rattle.field.proofs.same_bytes.Given as goal

abbrev pub invariant-loop-i : goal.invariant-loop-i
invariant-loop-i l = same l.a l.b ≡ (l.ok and same (drop l.i l.a) (drop l.i l.b))

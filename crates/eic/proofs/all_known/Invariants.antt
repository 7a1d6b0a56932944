use Rattle.std.specs.Prelude.{◌≡◌, ◌≤◌, ◌-◌}
use Rattle.laws.specs.Kit.{length, drop, ◌and◌}
use Rattle.laws.specs.Lists.{every}
use Rattle.eic.specs.Values.{known}
use Rattle.eic.proofs.all_known.Given as goal

abbrev pub invariant-loop-value : goal.invariant-loop-value
invariant-loop-value l = every known l.values ≡ (l.ok and every known (drop l.value-index l.values))

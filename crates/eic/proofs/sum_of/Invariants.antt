use Rattle.std.specs.Prelude.{◌≡◌, ◌≤◌, ◌+◌, ◌-◌, ◌*◌}
use Rattle.laws.specs.Kit.{length, take}
use Rattle.eic.specs.Values.{weighted_values}
use Rattle.eic.proofs.sum_of.Given as goal

abbrev pub invariant-loop-value : goal.invariant-loop-value
invariant-loop-value l = (l.weight + l.value-index ≡ 16) × (l.sum ≤ 4080 * l.value-index) × (l.sum ≡ weighted_values 16 (take l.value-index l.values))

use Rattle.std.specs.Prelude.{◌≡◌, ◌≤◌, ◌-◌}
use Rattle.laws.specs.Kit.{length, take, map}
use Rattle.paper.specs.Eic.{character_value}
use Rattle.eic.proofs.values_of.Given as goal

abbrev pub invariant-loop-i : goal.invariant-loop-i
invariant-loop-i l = (length l.values ≡ 16) × (take l.i l.values ≡ map character_value (take l.i l.s))

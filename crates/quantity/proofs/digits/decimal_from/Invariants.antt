use Rattle.std.specs.Prelude.{◌≡◌, ◌≤◌, ◌<◌, ◌-◌, ◌^◌}
use Rattle.laws.specs.Kit.{length, drop}
use Rattle.paper.specs.QuantityText.{decimal_from}
use Rattle.quantity.proofs.digits.decimal_from.Given as goal

abbrev pub invariant-loop-x : goal.invariant-loop-x
invariant-loop-x l = (l.a < 10 ^ l.x-index) × (decimal_from l.a (drop l.x-index l.s) ≡ decimal_from 0 l.s)

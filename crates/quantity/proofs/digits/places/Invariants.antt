use Rattle.std.specs.Prelude.{◌≡◌, ◌≤◌, ◌-◌, ◌+◌}
use Rattle.quantity.specs.Digits.{places_by}
use Rattle.quantity.proofs.digits.places.Given as goal

abbrev pub invariant-loop-k : goal.invariant-loop-k
invariant-loop-k l = (l.k ≤ l.most) × (l.k + places_by (l.most - l.k) l.rest ≡ places_by l.most l.x)

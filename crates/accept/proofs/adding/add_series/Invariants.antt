use Rattle.std.specs.Prelude.{◌≡◌}
use Rattle.laws.specs.Kit.{length}
use Rattle.laws.specs.Cut.{cut}
use Rattle.accept.specs.Steps.{Laid, added_to}
use Rattle.accept.proofs.adding.add_series.Given as goal

abbrev pub invariant-loop-k : goal.invariant-loop-k
invariant-loop-k l = (length l.slots ≡ length l.initial.slots) × Laid l.start (added_to l.slot.0 l.places (cut 512 l.series) l.k) (cut 512 l.initial.slots) (cut 512 l.slots) l.next

use Rattle.std.specs.Prelude.{◌≡◌}
use Rattle.laws.specs.Kit.{length}
use Rattle.laws.specs.Cut.{cut}
use Rattle.laws.specs.InPlace.{done}
use Rattle.paper.specs.Acceptance.{remarked}
use Rattle.accept.proofs.remarking.remark_each.Given as goal

abbrev pub invariant-loop-i : goal.invariant-loop-i
invariant-loop-i l = (length l.us ≡ length l.initial.us) × (cut 512 l.us ≡ done (remarked l.n l.slot.0) (cut 512 l.initial.us) l.i)

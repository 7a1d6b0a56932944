use Rattle.std.specs.Prelude.{◌≡◌}
use Rattle.laws.specs.Kit.{length}
use Rattle.laws.specs.Cut.{cut}
use Rattle.laws.specs.InPlace.{done}
use Rattle.accept.specs.Steps.{renewed_with}
use Rattle.accept.proofs.renewal.renew_all.Given as goal

abbrev pub invariant-loop-i : goal.invariant-loop-i
invariant-loop-i l = (length l.us ≡ length l.initial.us) × (cut 512 l.us ≡ done (λ all. renewed_with l.slot.0 l.kept (cut 512 l.series)) (cut 512 l.initial.us) l.i)

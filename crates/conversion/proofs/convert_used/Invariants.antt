use Rattle.std.specs.Prelude.{◌≡◌}
use Rattle.laws.specs.Kit.{length}
use Rattle.laws.specs.Cut.{cut}
use Rattle.laws.specs.InPlace.{done}
use Rattle.paper.specs.Conversion.{converted_block}
use Rattle.conversion.proofs.convert_used.Given as goal

abbrev pub invariant-loop-i : goal.invariant-loop-i
invariant-loop-i l = (length l.us ≡ length l.initial.us) × (cut 512 l.us ≡ done (converted_block l.n l.ours) (cut 512 l.initial.us) l.i)

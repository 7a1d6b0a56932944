use Rattle.std.specs.Prelude.{◌≡◌}
use Rattle.laws.specs.Kit.{length}
use Rattle.laws.specs.Cut.{cut}
use Rattle.sound.specs.Links.{Tagged}
use Rattle.sound.proofs.links.tags_of.Given as goal

abbrev pub invariant-loop-i : goal.invariant-loop-i
invariant-loop-i l = Tagged (cut 512 l.us) l.i l.tags × (length l.tags ≡ 1000)

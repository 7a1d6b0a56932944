use Rattle.std.specs.Prelude.{◌≡◌}
use Rattle.laws.specs.Kit.{drop, ◌and◌}
use Rattle.laws.specs.Lists.{apart}
use Rattle.laws.specs.Cut.{cut}
use Rattle.sound.specs.Used.{clashes}
use Rattle.sound.proofs.apart.blocks_apart.Given as goal

abbrev pub invariant-loop-i : goal.invariant-loop-i
invariant-loop-i l = apart clashes (cut 512 l.us) ≡ (l.ok and apart clashes (drop l.i (cut 512 l.us)))

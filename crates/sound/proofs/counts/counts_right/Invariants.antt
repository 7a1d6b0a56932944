use Rattle.std.specs.Prelude.{◌≡◌}
use Rattle.laws.specs.Kit.{drop, ◌and◌}
use Rattle.laws.specs.Lists.{every}
use Rattle.laws.specs.Cut.{cut}
use Rattle.sound.specs.Used.{count_right}
use Rattle.sound.proofs.counts.counts_right.Given as goal

abbrev pub invariant-loop-i : goal.invariant-loop-i
invariant-loop-i l = every (count_right (cut 512 l.us)) (cut 512 l.us) ≡ (l.ok and every (count_right (cut 512 l.us)) (drop l.i (cut 512 l.us)))

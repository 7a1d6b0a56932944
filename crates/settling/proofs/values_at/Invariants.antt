use Rattle.std.specs.Prelude.{◌≡◌}
use Rattle.laws.specs.Kit.{length}
use Rattle.laws.specs.Cut.{cut}
use Rattle.settling.specs.Values.{Valued}
use Rattle.settling.proofs.values_at.Given as goal

abbrev pub invariant-loop-i : goal.invariant-loop-i
invariant-loop-i l = Valued l.rule (cut 512 l.us) l.k l.i l.values × (length l.values ≡ 1000)

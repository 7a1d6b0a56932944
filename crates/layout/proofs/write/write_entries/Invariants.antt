use Rattle.std.specs.Prelude.{◌≡◌}
use Rattle.laws.specs.Kit.{length}
use Rattle.laws.specs.Bytes.{written}
use Rattle.layout.specs.Written.{entries}
use Rattle.layout.proofs.write.write_entries.Given as goal

abbrev pub invariant-loop-k : goal.invariant-loop-k
invariant-loop-k l = (length l.b ≡ length l.initial.b) × (l.b ≡ written 108 (entries l.v l.k) l.initial.b)

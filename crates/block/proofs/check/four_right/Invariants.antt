use Rattle.std.specs.Prelude.{◌≡◌, ◌≤◌, ◌*◌}
use Rattle.laws.specs.Bytes.{part}
use Rattle.paper.specs.Check.{check_from}
use Rattle.block.proofs.check.four_right.Given as goal

abbrev pub invariant-loop-k : goal.invariant-loop-k
invariant-loop-k l = (l.a ≡ check_from 0 (part 0 (4 * l.k) l.s)) × (l.b ≡ check_from 0 (part 512 (4 * l.k) l.s)) × (l.c ≡ check_from 0 (part 1024 (4 * l.k) l.s)) × (l.d ≡ check_from 0 (part 1536 (4 * l.k) l.s))

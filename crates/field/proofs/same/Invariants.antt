use Rattle.std.specs.Prelude.{◌≡◌, ◌*◌}
use Rattle.laws.specs.Kit.{drop}
use Rattle.laws.specs.Lists.{same}
use Rattle.field.proofs.same.Given as goal

abbrev pub invariant-loop-k : goal.invariant-loop-k
invariant-loop-k l = same l.a l.b ≡ same (drop (16 * l.k) l.a) (drop (16 * l.k) l.b)

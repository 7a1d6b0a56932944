use Rattle.std.specs.Prelude.{◌≡◌}
use Rattle.laws.specs.Kit.{drop, ◌and◌, is}
use Rattle.laws.specs.Lists.{every}
use Rattle.field.proofs.all_zero.Given as goal

abbrev pub invariant-loop-x : goal.invariant-loop-x
invariant-loop-x l = every (λ x. is x 0) l.s ≡ (is l.most 0 and every (λ x. is x 0) (drop l.x-index l.s))

-- What is left of a walk that ends does.
use Rattle.laws.specs.Kit.{refl, arith}
use Rattle.index.specs.Ahead.Laws.{ends_most, ends_next}
use Rattle.index.proofs.buckets.Buckets.next.Goals as goal

pub returns : goal.returns
returns c = (refl, λ e. let r = ends_next _ _ e (λ z. omega (arith, c.requires.0, z)) refl in (r, ends_most _ _ r))

-- The code's `&` is the definition's.
use Rattle.laws.specs.Kit.{refl, ◌and◌}
use Rattle.site_leaves.proofs.line.both.Goals as goal

pub returns : goal.returns
unfolding ◌and◌
returns c = refl

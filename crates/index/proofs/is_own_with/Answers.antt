-- Both tests, as in the definition.
use Rattle.laws.specs.Kit.{◌and◌}
use Rattle.index.specs.Linked.{own_with}
use Rattle.index.proofs.is_own_with.Goals as goal

pub returns : goal.returns
unfolding own_with ◌and◌
returns c = simp (c.alike.ensures, c.is_series_of.ensures)

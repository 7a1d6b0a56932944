-- The three tests, as in the definition.
use Rattle.laws.specs.Kit.{◌and◌}
use Rattle.index.specs.Rights.{is_right_for}
use Rattle.index.proofs.rights.is_right_for.Goals as goal

pub returns : goal.returns
unfolding is_right_for ◌and◌
returns c = simp (c.names.ensures, c.with_capacity.ensures, c.is_right_of.ensures)

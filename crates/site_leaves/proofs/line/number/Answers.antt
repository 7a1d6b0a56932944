-- The test told is the test answered.
use Rattle.laws.specs.Kit.{is}
use Rattle.site_leaves.proofs.line.number.Goals as goal

pub returns : goal.returns
unfolding is
returns g c = c.verdict.ensures

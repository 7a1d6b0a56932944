-- The test told is the test answered.
use Rattle.laws.specs.Kit.{◌∙◌}
use Rattle.site_leaves.proofs.line.page.Goals as goal

pub returns : goal.returns
returns g c = c.verdict.ensures ∙ c.same-right.ensures

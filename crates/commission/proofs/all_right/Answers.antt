-- Every part holds.
use Rattle.laws.specs.Kit.{◌∙◌, ◌and◌}
use Rattle.laws.specs.Lists.{every}
use Rattle.commission.proofs.all_right.Goals as goal

pub returns : goal.returns
unfolding every ◌and◌
returns g c = c.all.ensures ∙ rw (c.leaves_right-a.ensures, c.checks_right-b.ensures, c.days_right.ensures)

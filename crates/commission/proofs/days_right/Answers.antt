-- Each day's table holds.
use Rattle.laws.specs.Kit.{◌∙◌, ◌and◌}
use Rattle.laws.specs.Lists.{every}
use Rattle.commission.proofs.days_right.Goals as goal

pub returns : goal.returns
unfolding every ◌and◌
returns g c =
    c.all.ensures ∙ rw (c.leads_right-a.ensures, c.versions_right-b.ensures, c.closed_right-c.ensures, c.rights_right-d.ensures, c.listed_right.ensures)

-- The entries are what is written before the check is put right.
use Rattle.laws.specs.Kit.{ap, ◌∙◌}
use Rattle.paper.specs.Check.{sealed}
use Rattle.paper.specs.Layout.{with_nets}
use Rattle.layout.specs.Written.{with_entries}
use Rattle.nets.proofs.put_nets.Goals as goal

pub returns : goal.returns
unfolding with_nets with_entries
returns c = c.seal.ensures ∙ ap sealed c.write_entries.ensures

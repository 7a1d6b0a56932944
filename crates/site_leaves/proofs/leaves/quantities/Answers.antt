-- Each text is read as it should be, by the definition.
use Rattle.laws.specs.Kit.{◌∙◌, ◌and◌}
use Rattle.laws.specs.Lists.{every}
use Rattle.paper.specs.Listing.{text}
use Rattle.site_leaves.specs.Proved.{a_reads, b_reads, c_reads}
use Rattle.site_leaves.proofs.leaves.quantities.Goals as goal

pub returns : goal.returns
unfolding text every ◌and◌
returns g c =
    c.all.ensures ∙ rw (c.read_as-a.ensures ∙ a_reads, c.read_as-b.ensures ∙ b_reads, c.read_as.ensures ∙ c_reads)

-- The two tests are the definition's, the second made where the first holds.
use Rattle.laws.specs.Kit.{◌and◌}
use Rattle.sound.specs.Used.{linked_sound}
use Rattle.laws.specs.Kit.{◌∙◌}
use Rattle.laws.specs.Kit.{sym}
use Rattle.sound.proofs.linked_sound.Goals as goal

pub returns-else-blocks_apart : goal.returns-else-blocks_apart
unfolding linked_sound ◌and◌
returns-else-blocks_apart c = rw (sym c.blocks_apart.ensures ∙ c.if-blocks_apart.false) c.if-blocks_apart.false

pub counts_right-requires : goal.counts_right-requires
counts_right-requires c =
    (c.requires.0, c.link_groups-buckets.ensures.links, (sym c.blocks_apart.ensures ∙ c.if-blocks_apart.true))

pub returns-then-blocks_apart : goal.returns-then-blocks_apart
unfolding linked_sound ◌and◌
returns-then-blocks_apart c =
    rw (sym c.blocks_apart.ensures ∙ c.if-blocks_apart.true) c.counts_right.ensures

-- The tags of the pair and of what is behind it, mixed as the definition has it.
use Rattle.laws.specs.Kit.{ap, ◌∙◌, ap₂}
use Rattle.index.specs.Tags.{mixed, tag_of, pair_tag_of, key_tag_of}
use Rattle.index.proofs.tags.key_tag_of.Goals as goal

pub returns : goal.returns
unfolding key_tag_of
returns c =
    c.mixed.ensures ∙ ap₂ mixed (c.pair_tag_of.ensures ∙ ap pair_tag_of c.part_of.ensures) (c.tag_of.ensures ∙ ap tag_of c.part_of-2.ensures)

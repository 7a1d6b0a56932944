-- The two parties' tags, mixed as the definition has it.
use Rattle.laws.specs.Kit.{ap, ◌∙◌, ap₂}
use Rattle.index.specs.Tags.{mixed, tag_of, pair_tag_of}
use Rattle.index.proofs.tags.pair_tag_of.Goals as goal

pub returns : goal.returns
unfolding pair_tag_of
returns c =
    c.mixed.ensures ∙ ap₂ mixed (c.tag_of.ensures ∙ ap tag_of c.part_of.ensures) (c.tag_of-2.ensures ∙ ap tag_of c.part_of-2.ensures)

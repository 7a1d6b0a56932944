-- The tag is that of the bytes that the definition chooses, or the one handed in.
use Rattle.laws.specs.Kit.{sym, ap, ◌∙◌}
use Rattle.index.specs.Tags.{tag_of}
use Rattle.sound.specs.Links.{id_tag}
use Rattle.sound.proofs.links.id_tag.Goals as goal

pub returns-then-is_series : goal.returns-then-is_series
unfolding id_tag
returns-then-is_series c = rw (sym c.is_series.ensures ∙ c.if-is_series.true) (c.tag_of.ensures ∙ ap tag_of c.id_of.ensures)

pub returns : goal.returns
unfolding id_tag
returns c = rw (sym c.is_series.ensures ∙ c.if-is_series.false) c.requires

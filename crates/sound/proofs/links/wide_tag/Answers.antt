-- The two tags are those of the definition, and their sum wraps as it does there.
use Rattle.sound.specs.Links.{wide_tag}
use Rattle.sound.proofs.links.wide_tag.Goals as goal

pub returns : goal.returns
unfolding wide_tag
returns c =
    simp (c.key_tag_of.ensures, c.parties_and_agreement.ensures, c.pair_tag_of.ensures, c.areas.ensures)

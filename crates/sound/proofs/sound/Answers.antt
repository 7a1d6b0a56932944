-- Soundness is soundness over the count's bound.
use Rattle.paper.specs.Sound.{sound}
use Rattle.sound_blocks.specs.Layouts.{allowed_in}
use Rattle.sound.proofs.sound.Goals as goal

pub returns : goal.returns
unfolding sound allowed_in
returns c = c.sound_over.ensures

-- The old layout is soundness over the state's bounds.
use Rattle.paper.specs.Conversion.{old_sound}
use Rattle.sound_blocks.specs.Layouts.{allowed_in}
use Rattle.sound.proofs.old_sound.Goals as goal

pub returns : goal.returns
unfolding old_sound allowed_in
returns c = c.sound_over.ensures

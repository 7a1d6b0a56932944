-- The block at the place of the stored series is the one that the definition finds; at place 0 both are empty.
use Rattle.readings.proofs.Laws.Marks.{block_unsound, block_sound}
use Rattle.std.proofs.Common.{◌∙◌}
use Rattle.std.proofs.Common.{sym}
use Rattle.readings.proofs.accepted_block.Goals as goal

pub returns-then-not-sound : goal.returns-then-not-sound
returns-then-not-sound c = block_unsound _ _ _ (sym c.sound.ensures ∙ c.if-not-sound.true)

pub returns : goal.returns
returns c =
    block_sound _ _ _ (sym c.sound.ensures ∙ c.if-not-sound.false) _ c.used_part-us.ensures.0 c.stored_as.ensures c.numbered.ensures

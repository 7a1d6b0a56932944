-- 1, else why the position is refused, whichever party is asked for.
use Rattle.settlement_text.proofs.Laws.{number_unsound, number_sound}
use Rattle.std.proofs.Common.{◌∙◌}
use Rattle.std.proofs.Common.{sym}
use Rattle.settlement_text.proofs.refusal.Goals as goal

pub returns-then-not-sound : goal.returns-then-not-sound
returns-then-not-sound c = number_unsound _ _ (sym c.sound.ensures ∙ c.if-not-sound.true)

pub returns : goal.returns
returns c =
    number_sound _ _ (sym c.sound.ensures ∙ c.if-not-sound.false) c.part_of.ensures c.position_number.ensures

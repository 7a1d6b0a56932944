-- Past soundness the used slots decide.
use Rattle.laws.specs.Kit.{◌∙◌}
use Rattle.readings.proofs.Laws.Marks.{mark_unsound, mark_sound}
use Rattle.laws.specs.Kit.{sym}
use Rattle.readings.proofs.mark.Goals as goal

pub returns-then-not-sound : goal.returns-then-not-sound
returns-then-not-sound c = c.mark_refused.ensures ∙ mark_unsound _ _ _ (sym c.sound.ensures ∙ c.if-not-sound.true)

pub returns : goal.returns
returns c =
    mark_sound _ _ _ (sym c.sound.ensures ∙ c.if-not-sound.false) c.used_part.ensures.0 c.mark_in.ensures

-- Past soundness the day block and the used slots decide.
use Rattle.laws.specs.Kit.{◌∙◌}
use Rattle.readings.proofs.Laws.Final.{final_unsound, final_sound}
use Rattle.laws.specs.Kit.{sym}
use Rattle.readings.proofs.final_value.Goals as goal

pub returns-then-not-sound : goal.returns-then-not-sound
returns-then-not-sound c = c.final_refused.ensures ∙ final_unsound _ _ _ _ (sym c.sound.ensures ∙ c.if-not-sound.true)

pub returns : goal.returns
returns c =
    final_sound _ _ _ _ (sym c.sound.ensures ∙ c.if-not-sound.false) c.part_of.ensures c.used_part.ensures.0 c.final_in.ensures

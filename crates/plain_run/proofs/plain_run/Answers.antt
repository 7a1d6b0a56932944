-- In a sound book the marks and nets of the used slots are looked at; n is at most 100, and there are no more than 1,000 slots.
use Rattle.laws.specs.Kit.{arith}
use Rattle.plain_run.proofs.Laws.{sound_length, sound_n, n_day, area_day, not_sound, found}
use Rattle.laws.specs.Kit.{◌∙◌}
use Rattle.laws.specs.Kit.{sym}
use Rattle.plain_run.proofs.plain_run.Goals as goal

pub returns-then-not-sound : goal.returns-then-not-sound
returns-then-not-sound c = not_sound _ (sym c.sound.ensures ∙ c.if-not-sound.true)

pub marks_true-requires : goal.marks_true-requires
marks_true-requires c =
    let t = (sym c.sound.ensures ∙ c.if-not-sound.false) in
    (omega (arith, n_day _ _ _ c.n_of-n.ensures c.part_of-day.ensures, sound_n _ t), omega (arith, c.used_part-us.ensures.1, sound_length _ t))

pub every_net_true-requires : goal.every_net_true-requires
every_net_true-requires c =
    omega (arith, c.used_part-us.ensures.1, sound_length _ (sym c.sound.ensures ∙ c.if-not-sound.false))

pub returns : goal.returns
returns c =
    found _ _ _ _ _ _ (sym c.sound.ensures ∙ c.if-not-sound.false) (n_day _ _ _ c.n_of-n.ensures c.part_of-day.ensures) (area_day _ _ _ c.area.ensures c.part_of-day.ensures) c.used_part-us.ensures.0 c.marks_true.ensures c.every_net_true.ensures

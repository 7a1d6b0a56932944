-- Past soundness the day block and the used slots are asked; what soundness says of them bounds the sums and makes each pair a trade and its counterpart.
use Rattle.laws.specs.Kit.{◌∙◌}
use Rattle.settling.proofs.Laws.{settled_unsound, settled_sound, sound_n, sound_few, sound_trades}
use Rattle.laws.specs.Kit.{sym}
use Rattle.settling.proofs.settled.Goals as goal

pub returns-then-not-sound : goal.returns-then-not-sound
returns-then-not-sound c = c.settled_refused.ensures ∙ settled_unsound _ _ _ (sym c.sound.ensures ∙ c.if-not-sound.true)

pub settled_in-requires : goal.settled_in-requires
settled_in-requires c =
    let s = (sym c.sound.ensures ∙ c.if-not-sound.false) in
    (sound_n _ s c.part_of.ensures, sound_few _ s c.used_part.ensures.1, sound_trades _ s c.used_part.ensures.0)

pub returns : goal.returns
returns c =
    settled_sound _ (sym c.sound.ensures ∙ c.if-not-sound.false) _ _ c.part_of.ensures c.used_part.ensures.0 c.settled_in.ensures

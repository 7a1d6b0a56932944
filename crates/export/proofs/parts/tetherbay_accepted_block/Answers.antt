-- The search goes over the used slots, and only of a sound book; the slot that it finds tells the place.
use Rattle.export.proofs.Laws.Parts.{accepted_unsound, accepted_sound}
use Rattle.export.proofs.Laws.Demand3.{block_by_messages}
use Rattle.std.proofs.Common.{◌∙◌}
use Rattle.std.proofs.Common.{sym, refl}
use Rattle.export.proofs.parts.tetherbay_accepted_block.Goals as goal

pub returns-then-not-sound : goal.returns-then-not-sound
returns-then-not-sound c =
    let gives = block_by_messages _ _ _ (accepted_unsound _ _ _ (sym c.sound.ensures ∙ c.if-not-sound.true) refl) in
    record { value = gives.0; block_by_messages = gives.1 }

pub returns : goal.returns
returns c =
    let gives = block_by_messages _ _ _ (accepted_sound _ _ _ (sym c.sound.ensures ∙ c.if-not-sound.false) c.used_part.ensures.0 c.stored_as.ensures c.part_numbered.ensures) in
    record { value = gives.0; block_by_messages = gives.1 }

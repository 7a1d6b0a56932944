-- Past soundness each test is the definition's: a sound book is full where its used slots reach its end.
use Rattle.laws.specs.Kit.{sym, ◌∙◌, ◌or◌, neg, is_equal, is_other}
use Rattle.facts.specs.Sound.{sound_says}
use Rattle.entering.proofs.Laws.{book_long, full_is, not_sound, day_few, unfit, full, fits}
use Rattle.entering.proofs.place_for.Goals as goal

pub returns-then-not-sound-clause-number : goal.returns-then-not-sound-clause-number
returns-then-not-sound-clause-number c = not_sound _ _ (sym c.sound.ensures ∙ c.if-not-sound.true)

pub right_allowed-requires : goal.right_allowed-requires
right_allowed-requires c =
    day_few c.args.book.now c.args.block.now (sym c.sound.ensures ∙ c.if-not-sound.false) c.part_of.ensures

pub returns-then-right_allowed-is_stored-clause-number : goal.returns-then-right_allowed-is_stored-clause-number
unfolding ◌or◌ neg
returns-then-right_allowed-is_stored-clause-number c =
    unfit _ _ (sym c.sound.ensures ∙ c.if-not-sound.false) c.part_of.ensures c.right_allowed.ensures c.used_part.ensures.0 c.is_stored.ensures c.if-right_allowed-is_stored.true

pub first_free-at-requires : goal.first_free-at-requires
first_free-at-requires c =
    book_long _ (sound_says _ (sym c.sound.ensures ∙ c.if-not-sound.false))

pub returns-then-at-book-clause-number : goal.returns-then-at-book-clause-number
unfolding ◌or◌ neg
returns-then-at-book-clause-number c =
    let t = sym c.sound.ensures ∙ c.if-not-sound.false in
    full _ _ t c.part_of.ensures c.right_allowed.ensures c.used_part.ensures.0 c.is_stored.ensures (full_is _ (sound_says _ t) c.first_free-at.ensures)
    c.if-right_allowed-is_stored.false (is_equal _ _ c.if-at-book.true)

pub returns-clause-number : goal.returns-clause-number
unfolding ◌or◌ neg
returns-clause-number c =
    let t = sym c.sound.ensures ∙ c.if-not-sound.false in
    fits _ _ t c.part_of.ensures c.right_allowed.ensures c.used_part.ensures.0 c.is_stored.ensures (full_is _ (sound_says _ t) c.first_free-at.ensures)
    c.if-right_allowed-is_stored.false (is_other _ _ c.if-at-book.false)

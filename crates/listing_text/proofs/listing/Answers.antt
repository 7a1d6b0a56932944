-- The definition's two questions, in its order; a book of at most 64 blocks has at most 63 slots.
use Rattle.paper.specs.Listing.{text}
use Rattle.listing_text.proofs.Laws.Whole.{listing_long, listing_unsound, listing_sound, used_few}
use Rattle.std.proofs.Common.{◌∙◌}
use Rattle.std.proofs.Common.{sym}
use Rattle.listing_text.proofs.listing.Goals as goal

pub returns-then-book-gt32768 : goal.returns-then-book-gt32768
unfolding text
returns-then-book-gt32768 c =
    rw (← listing_long _ c.if-book-gt32768.true) c.put_if_room.ensures

pub returns-then-not-sound : goal.returns-then-not-sound
unfolding text
returns-then-not-sound c =
    rw (← listing_unsound _ c.if-book-gt32768.false (sym c.sound.ensures ∙ c.if-not-sound.true)) c.put_if_room-then-not-sound.ensures

pub put_listing_if_room-requires : goal.put_listing_if_room-requires
put_listing_if_room-requires c = used_few _ c.if-book-gt32768.false _ c.used_part.ensures.0

pub returns : goal.returns
returns c =
    rw (← listing_sound _ c.if-book-gt32768.false (sym c.sound.ensures ∙ c.if-not-sound.false) c.used_part.ensures.0) c.put_listing_if_room.ensures

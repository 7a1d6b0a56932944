-- The place behind the text is its length, whatever the buffer.
use Rattle.laws.specs.Kit.{◌∙◌, zero-add}
use Rattle.listing_text.proofs.Laws.Whole.{too_short, room_enough}
use Rattle.listing_text.proofs.put_listing_if_room.Goals as goal

pub returns-then-out-put_listing : goal.returns-then-out-put_listing
returns-then-out-put_listing c = too_short _ _ _ (c.put_listing.ensures.place ∙ zero-add _) c.if-out-put_listing.true

pub returns : goal.returns
returns c =
    room_enough _ _ _ (c.put_listing.ensures.place ∙ zero-add _) c.if-out-put_listing.false c.put_listing-2.ensures

-- The length is asked before the first byte is put.
use Rattle.laws.specs.Kit.{refl}
use Rattle.listing_text.proofs.Laws.Whole.{too_short, room_enough}
use Rattle.listing_text.proofs.put_if_room.Goals as goal

pub returns-then-out-s : goal.returns-then-out-s
returns-then-out-s c = too_short _ _ _ refl c.if-out-s.true

pub returns : goal.returns
returns c =
    room_enough _ _ _ refl c.if-out-s.false c.put_text.ensures

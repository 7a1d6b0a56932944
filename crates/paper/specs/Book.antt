-- "Blocks": a book is the day block, then slots 1, 2 and on. An absent block is the empty list, and a number read of it is 0.
-- us are the used slots, e is an EIC.
use Rattle.std.specs.Prelude.{Bool, false, cond, List, [], ℕ, zero, suc, take, drop, get_or}
use Rattle.std.proofs.Math.Option.{Option, none, some}
use Rattle.laws.specs.Tests.{◌and◌, ◌or◌, is}
use Rattle.laws.specs.Lists.{same, place, keep, count, until}
use Rattle.paper.specs.Layout.{Bytes, Block, blocks, zeros, kind, id_of, sender, business_type, senders_slot, pair, key, holder}

unfoldable pub day_block : (book : Bytes) → Block
day_block book = take 512 book

unfoldable pub slots : (book : Bytes) → List Block
slots book = blocks (drop 512 book)

-- "A free slot is all zero"
unfoldable pub is_free : Block → Bool
is_free b = zeros b

-- the used slots: all before the first free one
unfoldable pub used : (book : Bytes) → List Block
used book = until is_free (slots book)

unfoldable pub free_slots : (book : Bytes) → ℕ
free_slots book = count is_free (slots book)

unfoldable pub is_sender : Block → Bool
is_sender b = is (kind b) 1

unfoldable pub is_series : Block → Bool
is_series b = is (kind b) 2

unfoldable pub is_right : Block → Bool
is_right b = is (kind b) 4

-- the block with a number, counted from 1: in slot number k of the used slots, or series number k of a message
unfoldable pub numbered : (row : List Block) (number : ℕ) → Block
numbered row zero = []
numbered row (suc k) = get_or row k []

-- ---- the kinds of series, by business type

-- A02: a trade within the area
unfoldable pub is_trade : (x : Block) → Bool
is_trade x = is (business_type x) 2

-- "A03 (with capacity)": a schedule on a right
unfoldable pub with_capacity : (x : Block) → Bool
with_capacity x = is (business_type x) 3

-- an external schedule: that, or "A06 (no capacity)"
unfoldable pub is_external : (x : Block) → Bool
is_external x = with_capacity x or is (business_type x) 6

-- ---- a series, by its id or by its key

unfoldable pub id_is : (id : Bytes) (x : Block) → Bool
id_is id x = same (id_of x) id

unfoldable pub key_is : (k : Bytes) (x : Block) → Bool
key_is k x = same (key x) k

-- ---- a trade, by its pair of parties

-- "marks and finals pair A02 only": what a series is paired by; an external schedule has none
unfoldable pub trade : (x : Block) → Option Bytes
trade x = cond (is_trade x) (some (pair x)) none

-- x is a trade of these parties
unfoldable pub trade_is : (parties : Option Bytes) (x : Block) → Bool
trade_is none x = false
trade_is (some parties) x = is_trade x and same (pair x) parties

-- ---- a sender, by its EIC

-- b is the sender block of the sender e
unfoldable pub is_sender_block_of : (e : Bytes) (b : Block) → Bool
is_sender_block_of e b = is_sender b and same (sender b) e

-- the slot of a sender; 0 where it has none
unfoldable pub slot_of : (us : List Block) (e : Bytes) → ℕ
slot_of us e = place (is_sender_block_of e) us

-- b is a series of the sender in a slot
unfoldable pub is_series_of : (slot : ℕ) (b : Block) → Bool
is_series_of slot b = is_series b and is (senders_slot b) slot

-- b is the series of the sender in a slot with a key
unfoldable pub is_series_with : (slot : ℕ) (k : Bytes) (b : Block) → Bool
is_series_with slot k b = is_series_of slot b and key_is k b

-- b is the trade of the sender in a slot between these parties
unfoldable pub is_trade_of : (slot : ℕ) (parties : Option Bytes) (b : Block) → Bool
is_trade_of slot parties b = is_series_of slot b and trade_is parties b

-- "the sender's own stored blocks": its sender block, the empty block for a new sender, and its series, by ascending slot. A sender with no
-- slot has no series in a sound book, as no series there names slot 0
unfoldable pub own_sender : (us : List Block) (e : Bytes) → Block
own_sender us e = numbered us (slot_of us e)

unfoldable pub own_series : (us : List Block) (e : Bytes) → List Block
own_series us e = keep (is_series_of (slot_of us e)) us

-- "the sender's own rights": those that it holds
unfoldable pub is_right_of : (e : Bytes) (b : Block) → Bool
is_right_of e b = is_right b and same (holder b) e

unfoldable pub own_rights : (us : List Block) (e : Bytes) → List Block
own_rights us e = keep (is_right_of e) us

-- What the code does step by step, over lists of blocks, where its way is not the definition's own.
use Rattle.std.specs.Prelude.{◌≡◌, Bool, true, cond, List, [], ◌∷◌, ◌++◌, ℕ, zero, suc, ◌+◌, ◌-◌, ◌*◌, ◌/◌, ◌≤◌, ◌<◌, length, take, get_or, set}
use Rattle.std.proofs.Math.Option.{Option}
use Rattle.laws.specs.Tests.{◌and◌, ◌or◌, neg, is}
use Rattle.laws.specs.Lists.{find, place, has, apart, until, All}
use Rattle.laws.specs.Cut.{cut}
use Rattle.laws.specs.InPlace.{over}
use Rattle.paper.specs.Layout.{Bytes, Block, sender, senders_slot, key, with_senders_slot}
use Rattle.paper.specs.Book.{is_free, is_series, key_is, trade, trade_is, is_sender_block_of, is_series_of, is_trade_of}
use Rattle.paper.specs.Marks.{counterpart_slot}
use Rattle.paper.specs.Acceptance.{replaced, touched, used_after}
use Rattle.facts.specs.Pairs.{same_trade}
use Rattle.facts.specs.Senders.{Owned}

-- a is laid over l from place s on, which gives r and ends at e
pub record Laid (s : ℕ) (a l r : List Block) (e : ℕ) : Type 0 where
  pub list : r ≡ over (take s l ++ a) l
  pub end : e ≡ s + length a

-- the sender's block as it is kept, if it has no slot yet
unfoldable pub sender_if_new : (had : ℕ) (kept : Block) → List Block
sender_if_new had kept = cond (is had 0) (kept ∷ []) []

-- y, told its sender's slot, if it has no place among the used slots
unfoldable pub added_at : (slot place : ℕ) (y : Block) → List Block
added_at slot place y = cond (is place 0) (with_senders_slot slot y ∷ []) []

-- those of the first k series
unfoldable pub added_to : (slot : ℕ) (places : List ℕ) (series : List Block) (k : ℕ) → List Block
added_to slot places series zero = []
added_to slot places series (suc k) = added_to slot places series k ++ added_at slot (get_or places k 0) (get_or series k [])

-- those of a message whose series lie in bytes
abbrev pub added_of : (slot : ℕ) (places : List ℕ) (series : Bytes) → List Block
added_of slot places series = added_to slot places (cut 512 series) (length series / 512)

-- all new blocks: had is the slot that the sender has, 0 where it has none
abbrev pub new_of : (had slot : ℕ) (places : List ℕ) (kept : Block) (series : Bytes) → List Block
new_of had slot places kept series = sender_if_new had kept ++ added_of slot places series

-- a used block as the message leaves it, where kept is the sender block as it is kept
unfoldable pub renewed_with : (slot : ℕ) (kept : Block) (series : List Block) (b : Block) → Block
renewed_with slot kept series b =
    cond (is_sender_block_of (sender kept) b) kept (cond (is_series_of slot b) (replaced slot b (find (key_is (key b)) series)) b)

-- a is laid over the slots from place s on, which gives after and ends at e
pub record LaidInto (s : ℕ) (a : List Block) (slots after : Bytes) (e : ℕ) : Type 0 where
  pub laid : Laid s a (cut 512 slots) (cut 512 after) e
  pub fits : 512 * e ≤ length slots

-- a book's slots l after the acceptance
abbrev pub accepted_over : (n : ℕ) (ours : Bytes) (h : Block) (series l : List Block) → List Block
accepted_over n ours h series l = over (used_after n ours (until is_free l) h series) l

-- of each block the number of the first series that has its key
unfoldable pub Numbers : List Block → List Block → List ℕ → Type 0
Numbers us series numbers = (k : ℕ) → k < length us → get_or numbers k 0 ≡ place (key_is (key (get_or us k []))) series

-- of each block the number of the first trade that has its parties
unfoldable pub TradeNumbers : List Block → List Block → List ℕ → Type 0
TradeNumbers us series numbers = (k : ℕ) → k < length us → get_or numbers k 0 ≡ place (trade_is (trade (get_or us k []))) series

-- ---- the search for counterparts

-- series of a message that is past the rules
pub record Sent (series : List Block) : Type 0 where
  pub few : length series ≤ 200
  pub slots : All (λ y. is_series_of 0 y ≡ true) series
  pub distinct : apart same_trade series ≡ true

-- a row of slots, with a slot for number j + 1 unless there was one before
unfoldable pub first_kept : (slot j : ℕ) (row : List ℕ) → List ℕ
first_kept slot j row = set row j (cond (is (get_or row j 0) 0) slot (get_or row j 0))

-- the slots of the sender's series, with that of a block which has a number in the message
unfoldable pub home_noted : (slot : ℕ) (block : Block) (own number : ℕ) (homes : List ℕ) → List ℕ
home_noted slot block own number homes = cond (is number 0) homes (cond (is_series_of own block) (first_kept slot (number - 1) homes) homes)

-- the blocks once the new ones are placed: the sender in the slot own has the trades of its message and no others
pub record Housed (own : ℕ) (l series : List Block) : Type 0 where
  pub sent : Sent series
  pub same_trades : (t : Option Bytes) → has (is_trade_of own t) l ≡ has (trade_is t) series
  pub owners : Owned l

-- ---- the marks of both sides

-- past rule 16 the sender's series are those of its message: so another's series is the other side of one if it is a trade with a number in the message
unfoldable pub touched_by : (own number : ℕ) (y : Block) → Bool
touched_by own number y = is_series y and (is (senders_slot y) own or neg (is number 0))

-- the slot of the other side: what was found for a trade of the sender, and the slot of that trade for another's; none of what is no trade
unfoldable pub partner_by : (own number : ℕ) (partners homes : List ℕ) (y : Block) → ℕ
partner_by own number partners homes y = cond (is number 0) 0 (cond (is (senders_slot y) own) (get_or partners (number - 1) 0) (get_or homes (number - 1) 0))

pub record Side (own : ℕ) (l : List Block) (partners homes : List ℕ) (number : ℕ) (y : Block) : Type 0 where
  pub few : number ≤ 200
  pub is_touched : touched_by own number y ≡ touched own l y
  pub partner : touched_by own number y ≡ true → partner_by own number partners homes y ≡ counterpart_slot l y

unfoldable pub Sides : (own : ℕ) (l : List Block) (partners homes numbers : List ℕ) → Type 0
Sides own l partners homes numbers = (k : ℕ) → k < length l → Side own l partners homes (get_or numbers k 0) (get_or l k [])

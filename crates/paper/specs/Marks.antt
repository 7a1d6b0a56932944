-- "Marks and finals": the mark of a series x, over the used slots us.
use Rattle.std.specs.Prelude.{Bool, cond, List, [], ◌∷◌, ℕ, zero, suc, ◌+◌}
use Rattle.std.proofs.Math.Option.{Option, none, some, map}
use Rattle.laws.specs.Tests.{◌and◌, neg, is}
use Rattle.laws.specs.Lists.{find, place}
use Rattle.laws.specs.Bytes.{little}
use Rattle.paper.specs.Layout.{Bytes, Block, senders_slot, quantities, entry}
use Rattle.paper.specs.Book.{is_series, trade, trade_is}

-- b is the counterpart of a trade between these parties of the sender in this slot: "the other party's series with the same in and out party".
-- Each trade's sender is one of its two parties, so another sender with the pair is the other party. An external schedule has no counterpart, and is none
unfoldable pub is_counterpart : (slot : ℕ) (parties : Option Bytes) (b : Block) → Bool
is_counterpart slot parties b = is_series b and neg (is (senders_slot b) slot) and trade_is parties b

unfoldable pub counterpart : (us : List Block) (x : Block) → Option Block
counterpart us x = find (is_counterpart (senders_slot x) (trade x)) us

unfoldable pub counterpart_slot : (us : List Block) (x : Block) → ℕ
counterpart_slot us x = place (is_counterpart (senders_slot x) (trade x)) us

-- the lowest position, of as many as left says from k + 1 on, at which two lists of quantities differ; 0 where they agree
unfoldable pub difference_from : (left : ℕ) (k : ℕ) (ours : Bytes) (theirs : Bytes) → ℕ
difference_from zero k ours theirs = 0
difference_from (suc left) k ours theirs = cond (is (entry ours k) (entry theirs k)) (difference_from left (k + 1) ours theirs) (k + 1)

unfoldable pub first_difference : (n : ℕ) (ours : Bytes) (theirs : Bytes) → ℕ
first_difference n ours theirs = difference_from n 0 ours theirs

-- "Byte 104 becomes that count": at how many of the first n positions two lists of quantities differ
unfoldable pub differences : (n : ℕ) (ours : Bytes) (theirs : Bytes) → ℕ
differences zero ours theirs = 0
differences (suc k) ours theirs = differences k ours theirs + cond (is (entry ours k) (entry theirs k)) 0 1

-- count, first and partner of a series with quantities ours, whose counterpart has quantities theirs and stands in a slot. "(0 to n; 0 also when
-- alone)"; "State 1: none …, first 0, partner 0. State 2: all n agree, first 0. State 3: they differ …; first is the lowest such position"
unfoldable pub mark_of : (n : ℕ) (ours : Bytes) (theirs : Option Bytes) (slot : ℕ) → Bytes
mark_of n ours none slot = 0 ∷ 0 ∷ 0 ∷ 0 ∷ []
mark_of n ours (some theirs) slot = differences n ours theirs ∷ first_difference n ours theirs ∷ little 2 slot

unfoldable pub mark_in : (n : ℕ) (us : List Block) (x : Block) → Bytes
mark_in n us x = mark_of n (quantities x) (map quantities (counterpart us x)) (counterpart_slot us x)

-- the states, which no byte holds: a mark's count and partner tell them apart
abbrev pub alone : ℕ
alone = 1

abbrev pub agree : ℕ
agree = 2

abbrev pub differ : ℕ
differ = 3

unfoldable pub state_of_mark : (differing : ℕ) (partner : ℕ) → ℕ
state_of_mark differing partner = cond (is differing 0) (cond (is partner 0) alone agree) differ

-- the code of a state: A28 alone, A09 where they differ; 0 where it has none
unfoldable pub state_code : (state : ℕ) → ℕ
state_code state = cond (is state alone) 28 (cond (is state differ) 9 0)

-- and so of a mark
unfoldable pub mark_code : (differing : ℕ) (partner : ℕ) → ℕ
mark_code differing partner = state_code (state_of_mark differing partner)

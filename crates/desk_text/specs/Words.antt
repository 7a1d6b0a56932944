-- The words of each number, after document 01's tables.
use Rattle.std.specs.Prelude.{List, [], ◌∷◌, ◌++◌, ℕ, zero, suc, ◌+◌, length, drop}
use Rattle.laws.specs.Tests.{is}
use Rattle.laws.specs.Lists.{until}
use Rattle.paper.specs.Layout.{Bytes}
use Rattle.paper.specs.Listing.{text}

-- ---- pieces of a text, each ended by one byte: lines by a newline, the arguments of a command by a zero

-- rows, each ended by a newline
unfoldable pub lines : List Bytes → Bytes
lines [] = []
lines (w ∷ ws) = w ++ 10 ∷ lines ws

-- the first piece, without the byte that ends it
unfoldable pub first_piece : (end : ℕ) (s : Bytes) → Bytes
first_piece end s = until (λ x. is x end) s

unfoldable pub past_piece : (end : ℕ) (s : Bytes) → Bytes
past_piece end s = drop (length (first_piece end s) + 1) s

unfoldable pub past_pieces : (end : ℕ) (k : ℕ) (s : Bytes) → Bytes
past_pieces end zero s = s
past_pieces end (suc k) s = past_pieces end k (past_piece end s)

-- piece k, counted from 0; empty past the last
unfoldable pub piece_numbered : (end : ℕ) (k : ℕ) (s : Bytes) → Bytes
piece_numbered end k s = first_piece end (past_pieces end k s)

unfoldable pub line_numbered : (k : ℕ) (s : Bytes) → Bytes
line_numbered k s = piece_numbered 10 k s

unfoldable pub word_numbered : (k : ℕ) (words : Bytes) → Bytes
word_numbered k words = piece_numbered 0 k words

-- ---- what a number means

unfoldable pub meanings : Bytes
meanings =
    lines
    (text ""
    ∷ text "the book is not sound"
    ∷ text "the message is not 2 to 201 whole blocks with the right kinds, count, checks and zero bytes"
    ∷ text "the receiver is not the book's"
    ∷ text "the sender is not a valid EIC"
    ∷ text "the day or the number of quarter-hours is not the book's"
    ∷ text "the message id or the message version is wrong"
    ∷ text "the series id is malformed, or the id or the key of type, areas, parties and capacity is repeated or stored otherwise"
    ∷ text "the parties are not valid EICs with the sender among them, or a trade has one party twice"
    ∷ text "an area of a trade is not the book's, or an external schedule has not the book's area and another valid EIC"
    ∷ text "the business type is not A02, A03 or A06, or the capacity fields do not fit it"
    ∷ text "a quantity is negative"
    ∷ text "a quantity is above 9999.999 MW"
    ∷ text "a quantity stands behind the day's last quarter-hour"
    ∷ text "a closed quarter-hour was changed"
    ∷ text "the series version is wrong"
    ∷ text "a stored series of the sender is absent"
    ∷ text "the new blocks outnumber the free slots"
    ∷ text "the sender holds no right of these areas, contract type and agreement"
    ∷ text "the series on the right are together above its limit"
    ∷ text "a book has 2 to 1001 blocks"
    ∷ text "no day block holds such a parameter"
    ∷ text "the minute is lower than the kept clock or out of range"
    ∷ text "this sender has no series of that id"
    ∷ text "the day has no such position"
    ∷ text "the position is not closed yet"
    ∷ text "neither party has a trade of this pair"
    ∷ text ""
    ∷ text ""
    ∷ text ""
    ∷ text "not a quantity of 0 to 9999.999 MW"
    ∷ text "a negative quantity"
    ∷ text "the buffer is too short for the text"
    ∷ text ""
    ∷ text ""
    ∷ text ""
    ∷ text ""
    ∷ text ""
    ∷ text ""
    ∷ text ""
    ∷ text "the right is malformed or is entered already"
    ∷ [])

unfoldable pub meaning : ℕ → Bytes
meaning number = line_numbered number meanings

-- ---- what a state means

unfoldable pub states : Bytes
states = lines (text "" ∷ text "the other party has no such series" ∷ text "every quarter-hour agrees" ∷ text "the two sides differ" ∷ [])

unfoldable pub state_meaning : ℕ → Bytes
state_meaning state = line_numbered state states

-- ---- the commands

unfoldable pub commands : Bytes
commands =
    lines
    (text ""
    ∷ text "open"
    ∷ text "clock"
    ∷ text "submit"
    ∷ text "mark"
    ∷ text "block"
    ∷ text "final"
    ∷ text "plain"
    ∷ text "list"
    ∷ text "message"
    ∷ text "eic"
    ∷ text "kw"
    ∷ text "commission"
    ∷ text "convert"
    ∷ text "right"
    ∷ text "settle"
    ∷ [])

-- Rules 7 and 16 to 19 by what was found before they are judged: the number of a series in the message, its place and that of the right that it names among
-- the used slots; 0 where there is none.
use Rattle.std.specs.Prelude.{Bool, cond, List, [], ℕ, ◌+◌, length, get_or}
use Rattle.laws.specs.Tests.{◌and◌, ◌or◌, neg, is, less, below}
use Rattle.laws.specs.Lists.{count}
use Rattle.paper.specs.Layout.{Block, id_of, limit}
use Rattle.paper.specs.Ids.{id_well_formed}
use Rattle.paper.specs.Book.{is_sender, with_capacity, is_series_of}

-- of the message's series with a number: its first series with the same id, or with the same key, is another; or the sender's stored series with
-- that id is not the one with that key
unfoldable pub known_otherwise : (number first_with_id first_with_key stored_with_id stored_with_key : ℕ) → Bool
known_otherwise number first_with_id first_with_key stored_with_id stored_with_key =
    neg (is first_with_id number) or neg (is first_with_key number) or neg (is stored_with_id stored_with_key)

unfoldable pub rule7_by : (otherwise : Bool) (y : Block) → Bool
rule7_by otherwise y = neg (id_well_formed (id_of y)) or otherwise

-- a stored series of the sender in a slot, whose key has no number in the message
unfoldable pub absent_by : (slot number : ℕ) (x : Block) → Bool
absent_by slot number x = is_series_of slot x and is number 0

unfoldable pub rule16_by : (slot : ℕ) (us : List Block) (numbers : List ℕ) → Bool
rule16_by slot us numbers = neg (below (λ i. neg (absent_by slot (get_or numbers i 0) (get_or us i []))) (length us))

-- the sender's block, where none is stored, and each series of the message that has no place
unfoldable pub new_blocks_by : (known : Block) (places : List ℕ) → ℕ
new_blocks_by known places = cond (is_sender known) 0 1 + count (λ place. is place 0) places

unfoldable pub rule17_by : (known : Block) (free : ℕ) (places : List ℕ) → Bool
rule17_by known free places = less free (new_blocks_by known places)

-- y is a schedule on a right, and none was found
unfoldable pub rule18_by : (y : Block) (right : ℕ) → Bool
rule18_by y right = with_capacity y and is right 0

-- sum is that of y and the earlier series on the right r, at position k + 1
unfoldable pub rule19_by : (n : ℕ) (r : Block) (sum : ℕ) (y : Block) (k : ℕ) → Bool
rule19_by n r sum y k = with_capacity y and less k n and less (limit r k) sum

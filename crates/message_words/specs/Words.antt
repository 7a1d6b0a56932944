-- The text form of a message: its lines, a line's word and value, and numbers.
pub mod Laws
use Rattle.std.specs.Prelude.{Bool, cond, List, [], ◌∷◌, ℕ, zero, suc, ◌+◌, ◌/◌, length, drop}
use Rattle.laws.specs.Tests.{◌and◌, ◌or◌, is}
use Rattle.laws.specs.Lists.{until}
use Rattle.laws.specs.Bytes.{number}
use Rattle.paper.specs.Layout.{Bytes}
use Rattle.paper.specs.QuantityText.{quantity_read}

-- what stands before the first x, all where there is none; and what stands behind it
unfoldable pub before : ℕ → Bytes → Bytes
before x s = until (λ y. is y x) s

unfoldable pub behind : ℕ → Bytes → Bytes
behind x s = drop (length (before x s) + 1) s

-- the first m lines: each ends with a newline, 10, the last one perhaps with the text
unfoldable pub lines_up_to : ℕ → Bytes → List Bytes
lines_up_to zero s = []
lines_up_to (suc m) s = cond (is (length s) 0) [] (before 10 s ∷ lines_up_to m (behind 10 s))

-- no text has more lines than bytes
unfoldable pub lines : Bytes → List Bytes
lines s = lines_up_to (length s) s

-- a line is a word and, behind the first space, 32, its value
unfoldable pub word : Bytes → Bytes
word l = before 32 l

unfoldable pub value : Bytes → Bytes
value l = behind 32 l

-- empty, or a remark: it begins with #, 35
unfoldable pub skipped : Bytes → Bool
skipped l = is (length l) 0 or is (number 1 0 l) 35

-- the number that 1 to 4 digits say, 10,000 for any other text: a quantity text with no point, 46, in whole megawatts
unfoldable pub number_of : Bytes → ℕ
number_of s = cond (is (quantity_read s).number 0 and is (length (before 46 s)) (length s)) ((quantity_read s).kilowatts / 1000) 10000

-- "first-last", with a hyphen, 45, or one position alone
unfoldable pub first_of : Bytes → ℕ
first_of w = number_of (before 45 w)

unfoldable pub last_of : Bytes → ℕ
last_of w = cond (is (length (before 45 w)) (length w)) (first_of w) (number_of (behind 45 w))

-- The lines that answer a stream's records: a word, numbers in decimal and bytes in hex, with single spaces between, and a newline, 10.
pub mod Laws
use Rattle.std.specs.Borrow.{MutBor}
use Rattle.std.specs.Prelude.{cond, List, [], ◌∷◌, ◌++◌, ℕ, ◌+◌, ◌/◌, ◌%◌, length}
use Rattle.laws.specs.Tests.{is, less}
use Rattle.paper.specs.Layout.{Bytes}
use Rattle.paper.specs.Listing.{text}
use Rattle.desk_text.specs.Put.{Put}
use Rattle.desk_text.specs.Words.{lines, line_numbered}
use Rattle.desk_text.specs.Numbers.{number_text}

-- after a call, by what is known of it, the line has the piece of the item that it was given
abbrev pub PutsEach : {A : Type 0} → (A → Bytes) → (MutBor Bytes → ℕ → A → ℕ → MutBor Bytes → Type 0) → Type 0
PutsEach piece call = (b e : MutBor Bytes) (k r : ℕ) (x : _) → call b k x r e → Put k (piece x) r b.now e.now

-- a piece of text for each item, one behind the other
unfoldable pub pieces : {A : Type 0} → (A → Bytes) → List A → Bytes
pieces f [] = []
pieces f (x ∷ xs) = f x ++ pieces f xs

-- a space, 32, and the number
unfoldable pub spaced : ℕ → Bytes
spaced x = (32 ∷ []) ++ number_text x

unfoldable pub numbers_text : List ℕ → Bytes
numbers_text xs = pieces spaced xs

-- 0 to 9, then a to f
unfoldable pub hex_digit : ℕ → ℕ
hex_digit x = cond (less x 10) (48 + x) (87 + x)

unfoldable pub hex_byte : ℕ → Bytes
hex_byte x = hex_digit (x / 16) ∷ hex_digit (x % 16) ∷ []

unfoldable pub hex_text : Bytes → Bytes
hex_text s = pieces hex_byte s

-- behind a space; nothing for no bytes
unfoldable pub bytes_text : Bytes → Bytes
bytes_text s = cond (is (length s) 0) [] ((32 ∷ []) ++ hex_text s)

unfoldable pub answer_line : (word : Bytes) (numbers : List ℕ) (bytes : Bytes) → Bytes
answer_line word numbers bytes = word ++ numbers_text numbers ++ bytes_text bytes ++ 10 ∷ []

-- bytes alone, as a line of the book has them
unfoldable pub hex_line : Bytes → Bytes
hex_line s = hex_text s ++ 10 ∷ []

-- ---- by the record's tag

-- rows from tag 0, which is none
unfoldable pub words : Bytes
words =
    lines
    (text ""
    ∷ text "length"
    ∷ text "bytes"
    ∷ text "book"
    ∷ text "sum"
    ∷ text "open"
    ∷ text "clock"
    ∷ text "submit"
    ∷ text "mark"
    ∷ text "block"
    ∷ text "final"
    ∷ text "plain"
    ∷ text "reader"
    ∷ text "walk"
    ∷ text "listing"
    ∷ text "sound"
    ∷ text "eic"
    ∷ text "id"
    ∷ text "read"
    ∷ text "print"
    ∷ text "check"
    ∷ text "seal"
    ∷ text "code"
    ∷ text "judge"
    ∷ text "open_by"
    ∷ text "convert"
    ∷ text "right"
    ∷ text "settled"
    ∷ [])

unfoldable pub word_of : ℕ → Bytes
word_of tag = line_numbered tag words

-- no bytes are shown, and no line where nothing is told
unfoldable pub told_line : (tag : ℕ) (numbers : List ℕ) → Bytes
told_line tag numbers = cond (is (length numbers) 0) [] (answer_line (word_of tag) numbers [])

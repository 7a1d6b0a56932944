-- The listing's text: a header, then one line per series by ascending slot, with the kept marks.
use Prim.Native.Char.{code}
use Prim.Native.String.{String, [] as empty, ◌∷◌ as ◌before◌}
use Rattle.std.specs.Prelude.{cond, List, [], ◌∷◌, ◌++◌, ℕ, ◌+◌, length}
use Rattle.laws.specs.Tests.{less}
use Rattle.paper.specs.Layout.{Bytes, Block, id_of, sender, senders_slot, in_party, out_party, differing, first, partner}
use Rattle.paper.specs.Ids.{id_text}
use Rattle.paper.specs.Book.{used, is_series, numbered}
use Rattle.paper.specs.Sound.{sound}
use Rattle.paper.specs.QuantityText.{decimal}

-- the bytes of a text
unfoldable pub text : String → Bytes
text empty = []
text (character before rest) = code character ∷ text rest

-- "Single spaces" between words, "each line ended by a newline"
unfoldable pub line : (words : List Bytes) → Bytes
line [] = 10 ∷ []
line (word ∷ []) = word ++ 10 ∷ []
line (word ∷ next ∷ words) = word ++ 32 ∷ line (next ∷ words)

-- "slot, sender, id, in party, out party, state, first, partner", the count "in place of the state"
unfoldable pub series_line : (us : List Block) (slot : ℕ) (x : Block) → Bytes
series_line us slot x =
    line
    (decimal slot
    ∷ sender (numbered us (senders_slot x))
    ∷ id_text (id_of x)
    ∷ in_party x
    ∷ out_party x
    ∷ decimal (differing x)
    ∷ decimal (first x)
    ∷ decimal (partner x)
    ∷ [])

-- "one line per series by ascending slot": of the slots from one on
unfoldable pub series_lines : (us : List Block) (slot : ℕ) (from : List Block) → Bytes
series_lines us slot [] = []
series_lines us slot (b ∷ from) = cond (is_series b) (series_line us slot b) [] ++ series_lines us (slot + 1) from

-- "headed "differ""
unfoldable pub header : Bytes
header = text "slot sender series in out differ first partner\n"

-- "a book of at most 64 blocks"; "too long" or "not sound" otherwise
unfoldable pub listing : (book : Bytes) → Bytes
listing book = cond (less 32768 (length book)) (text "too long\n") (cond (sound book) (header ++ series_lines (used book) 1 (used book)) (text "not sound\n"))

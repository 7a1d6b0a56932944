-- The records that set or show the buffer (docs/REPLAY.md, tags 1 to 4). Where nothing is told the record is malformed.
pub mod Laws
use Rattle.std.specs.Prelude.{cond, List, [], ◌∷◌, ℕ, ◌+◌, ◌-◌, ◌*◌, length, replicate}
use Rattle.laws.specs.Tests.{is, upto}
use Rattle.laws.specs.Bytes.{part, written}
use Rattle.paper.specs.Layout.{Bytes}
use Rattle.paper.specs.Check.{check_from}
use Rattle.stream.specs.Line.{hex_line}

-- `length`: "the new length", where it does not pass the whole buffer's, which is all there is room for
unfoldable pub length_numbers : (whole : Bytes) (new : ℕ) → List ℕ
length_numbers whole new = cond (upto new (length whole)) (new ∷ []) []

-- "bytes gained are zero, even where the buffer had been longer once"; all others are as they were, and all are where nothing is told
unfoldable pub length_after : (whole : Bytes) (old new : ℕ) → Bytes
length_after whole old new = cond (upto new (length whole)) (written old (replicate (new - old) 0) whole) whole

-- `bytes`: "offset plus number of bytes must not exceed the buffer's length", here size
unfoldable pub bytes_numbers : (size offset count : ℕ) → List ℕ
bytes_numbers size offset count = cond (upto (offset + count) size) (offset ∷ count ∷ []) []

-- `book`: "the buffer's length"; `sum`: that "and the sum over all its bytes"
unfoldable pub buffer_numbers : (tag : ℕ) (book : Bytes) → List ℕ
buffer_numbers tag book = cond (is tag 3) (length book ∷ []) (length book ∷ check_from 0 book ∷ [])

-- no such line for no bytes
unfoldable pub row_of : (bytes : Bytes) → Bytes
row_of bytes = cond (is (length bytes) 0) [] (hex_line bytes)

-- behind the line of `book`: "the buffer in hex, 512 bytes (1,024 digits) to a line, the last line shorter"; i counts these lines from 0
unfoldable pub book_row : (book : Bytes) (i : ℕ) → Bytes
book_row book i = row_of (part (512 * i) 512 book)

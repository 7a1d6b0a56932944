-- What the desk makes of its arguments.
use Rattle.std.specs.Prelude.{cond, [], ◌∷◌, ◌++◌, ℕ, zero, suc, ◌+◌, ◌*◌, length, replicate}
use Rattle.laws.specs.Tests.{is, less}
use Rattle.laws.specs.Lists.{same}
use Rattle.laws.specs.Bytes.{written}
use Rattle.paper.specs.Layout.{Bytes}
use Rattle.paper.specs.Listing.{text}
use Rattle.desk_text.specs.Put.{within}
use Rattle.desk_text.specs.Words.{line_numbered, commands}

-- the first of the commands k, k + 1 and on, as many as are left, that a word names; 0 where it names none
unfoldable pub command_from : ℕ → ℕ → Bytes → ℕ
command_from zero k word = 0
command_from (suc left) k word = cond (same (line_numbered k commands) word) k (command_from left (k + 1) word)

unfoldable pub command_number : Bytes → ℕ
command_number word = command_from 15 1 word

-- an id in its field of sixteen bytes, zero bytes behind it; zero bytes alone, which are no series' id, stand for every longer one
unfoldable pub id_field : Bytes → Bytes
id_field id = cond (less 16 (length id)) (replicate 16 0) (written 0 id (replicate 16 0))

-- a number too large for its field becomes the field's largest, which no sound day block holds
unfoldable pub byte_value : ℕ → ℕ
byte_value x = within x 255

unfoldable pub word_value : ℕ → ℕ
word_value x = within x 65535

-- no block at all, which is no book, stands for every number above 1,001
unfoldable pub book_length : ℕ → ℕ
book_length blocks = cond (less 1001 blocks) 0 (512 * blocks)

-- ---- files

-- the file beside a book that the new book is written to
unfoldable pub beside : (path : Bytes) → Bytes
beside path = path ++ text ".new"

-- the place behind the last byte that is `end`, of a text whose first k bytes are passed and have it before `at`
unfoldable pub behind_last : (end k at : ℕ) (s : Bytes) → ℕ
behind_last end k at [] = at
behind_last end k at (x ∷ s) = behind_last end (k + 1) (cond (is x end) (k + 1) at) s

-- how many bytes of a path name the folder: those up to its last slash, 47
unfoldable pub folder_length : (path : Bytes) → ℕ
folder_length path = behind_last 47 0 0 path

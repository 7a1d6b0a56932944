-- The text form of a message and of a right: what each line makes of their blocks. The lines are laid into blocks of zeros; a wrong one ends the reading, and only
-- what is laid of a text without one is copied into the buffer.
use Rattle.std.specs.Prelude.{◌≡◌, ◌≤◌, ◌<◌, Option, MatchOption, Result, MatchResult, Bool, true, false, cond, List, [], ◌∷◌, ◌++◌, ℕ, zero, suc, ◌+◌, ◌-◌, ◌*◌, min, length, take, drop, replicate}
use Rattle.laws.specs.Tests.{◌and◌, ◌or◌, neg, is, less, upto}
use Rattle.laws.specs.Lists.{same}
use Rattle.laws.specs.Bytes.{part, little}
use Rattle.paper.specs.Check.{sealed}
use Rattle.paper.specs.Layout.{Bytes, Block, kind, n_of, version}
use Rattle.paper.specs.QuantityText.{quantity_read}
use Rattle.paper.specs.Listing.{text}
use Rattle.layout.specs.declared.write.Field.{Field}
use Rattle.layout.specs.Written.{with_front, with_series_count, with_business_type, with_field, with_quantity}
use Rattle.message_text.specs.declared.WrongLine.{WrongLine}
use Rattle.message_text.specs.declared.TextRead.{TextRead}
use Rattle.std.specs.Borrow.{Bor}
use Rattle.message_words.specs.Words.{before, behind, lines, word, value, skipped, number_of, first_of, last_of}

-- a function gives p: its answer is r, and the bytes that were lent to it are x
abbrev pub Gives : {A : Type 0} → A × Bytes → A → Bytes → Type 0
Gives p r x = (r ≡ p.0) × (x ≡ p.1)

-- the first line of a text, and what is behind it, which is shorter; none of an empty text
abbrev pub FirstLine : Bytes → Option (Bor Bytes × Bor Bytes) → Type 0
FirstLine t r = MatchOption r (length t ≡ 0) (λ p. (0 < length t) × (p.0.now ≡ before 10 t) × (p.1.now ≡ behind 10 t) × (length p.1.now < length t))

-- ---- where a value stands in its block

-- for each word of a block the bytes of its value, the first and the last: numbers before byte 8, texts behind them. A field of two, as both areas, takes its text twice
unfoldable pub sender_words : Bytes
sender_words = text "n 1\nversion 2-3\nmessage 8-23\nsender 24-39\nreceiver 40-55\nday 56-63\n"

unfoldable pub series_words : Bytes
series_words = text "version 2-3\ntype 4\ncontract 5\narea 24-55\nin-area 24-39\nout-area 40-55\nin 56-71\nout 72-87\nagreement 88-103\n"

unfoldable pub right_words : Bytes
right_words = text "n 1\ncontract 5\nin-area 24-39\nout-area 40-55\nholder 56-87\nagreement 88-103\n"

abbrev pub field : ℕ → ℕ → Field
field at width = record { at = at; width = width }

-- what a row of a table says; of no width where that is not in a block
unfoldable pub between : (first last : ℕ) → Field
between first last = cond (upto first last and less last 512) (field first (last + 1 - first)) (field 0 0)

-- the first row with a word; of no width where the table does not have it
unfoldable pub field_in : (rows : List Bytes) (w : Bytes) → Field
field_in [] w = field 0 0
field_in (l ∷ rows) w = cond (same (word l) w) (between (first_of (value l)) (last_of (value l))) (field_in rows w)

-- kinds 1, 2 and 4
unfoldable pub field_of : (kind : ℕ) (w : Bytes) → Field
field_of kind w = field_in (lines (cond (is kind 1) sender_words (cond (is kind 2) series_words right_words))) w

-- ---- a field: whether the value is fine, and the block with it

-- one byte holds up to 255, two take whatever the four digits of a number say
unfoldable pub with_number : Field → Bytes → Block → Bool × Block
with_number f v x = (less (number_of v) 10000 and (is f.width 2 or less (number_of v) 256), with_field f (little 2 (number_of v)) x)

-- how long a text may be
unfoldable pub most : Field → ℕ
most f = min f.width 16

-- at the field's start, and at its end: the same place but in a field of two
unfoldable pub with_text : Field → Bytes → Block → Bool × Block
with_text f v x = (upto (length v) (most f), with_field (field (f.at + (f.width - most f)) (most f)) v (with_field (field f.at (most f)) v x))

-- a quantity at m positions, before which there are k
unfoldable pub spread : (m k kilowatts : ℕ) → Block → Block
spread zero k q x = x
spread (suc m) k q x = spread m (k + 1) q (with_quantity k q x)

-- positions as a word names them, and a quantity text; a sender's block has none
unfoldable pub with_positions : Bytes → Bytes → Block → Bool × Block
with_positions w v x =
    cond (neg (is (kind x) 1) and less 0 (first_of w) and upto (first_of w) (last_of w) and upto (last_of w) 100 and is (quantity_read v).number 0)
    (true, spread (last_of w - (first_of w - 1)) (first_of w - 1) (quantity_read v).kilowatts x)
    (false, x)

-- a word that names no field names positions, or is wrong
unfoldable pub in_field : Field → Bytes → Bytes → Block → Bool × Block
in_field f w v x = cond (is f.width 0) (with_positions w v x) (cond (less f.at 8) (with_number f v x) (with_text f v x))

unfoldable pub in_block : Bytes → Bytes → Block → Bool × Block
in_block w v x = in_field (field_of (kind x) w) w v x

-- ---- a line in blocks of which the first is followed by some series so far

-- what became of a line: whether it was fine, and how many series there are now
pub record Laid : Type 0 where
  pub fine : Bool
  pub series : ℕ

abbrev pub laid : Bool → ℕ → Laid
laid fine series = record { fine = fine; series = series }

-- a function lays a line as p says: its answer is the number of series, or that the line is wrong, and the bytes that were lent to it are x. The series fit
abbrev pub Lays : Laid × Bytes → Option ℕ → Bytes → Type 0
Lays p r x = (MatchOption r (p.0.fine ≡ false) (λ s. (p.0 ≡ laid true s) × (512 * (s + 1) ≤ length x))) × (x ≡ p.1)

-- blocks with another in the place of the 512 bytes from an offset on
unfoldable pub with_block : ℕ → Block → Bytes → Bytes
with_block o y b = take o b ++ (y ++ drop (o + 512) b)

-- into the last block, with its check put right
unfoldable pub field_laid : ℕ → Bytes → Bytes → Bytes → Laid × Bytes
field_laid series w v b = (
  laid (in_block w v (part (512 * series) 512 b)).0 series,
  with_block (512 * series) (sealed (in_block w v (part (512 * series) 512 b)).1) b,
)

-- a block begins
unfoldable pub new_block : (kind business n version : ℕ) (id : Bytes) → Block → Block
new_block kind business n version id x = sealed (with_field (field 8 16) id (with_business_type business (with_front kind n version x)))

-- the sender's block counts a series
unfoldable pub counted : ℕ → Bytes → Bytes
counted series b = with_block 0 (sealed (with_series_count series (part 0 512 b))) b

-- it has kind 2, business type 2 until a line says otherwise, and the sender block's n and version
unfoldable pub series_laid : ℕ → Bytes → Bytes → Bytes
series_laid series id b =
    with_block (512 * series) (new_block 2 2 (n_of b) (version b) id (part (512 * series) 512 (counted series b))) (counted series b)

-- only a message has series, as many as there is room for
unfoldable pub begun : (series : ℕ) (id b : Bytes) → Laid × Bytes
begun series id b =
    cond (is (kind b) 1 and upto (512 * (series + 1) + 512) (length b))
    (laid (upto (length id) 16) (series + 1), series_laid (series + 1) id b)
    (laid false series, b)

unfoldable pub with_line : (series : ℕ) (l b : Bytes) → Laid × Bytes
with_line series l b =
    cond (skipped l) (laid true series, b)
    (cond (same (word l) (text "series")) (begun series (value l) b) (field_laid series (word l) (value l) b))

-- ---- the whole text

abbrev pub wrong_at : ℕ → TextRead
wrong_at line = record { line = line; length = 0 }

-- the lines behind the first k, of which the last gave m
unfoldable pub with_lines : (k : ℕ) → Laid × Bytes → List Bytes → TextRead × Bytes
with_lines k m [] = cond m.0.fine (record { line = 0; length = 512 * (m.0.series + 1) }, m.1) (wrong_at k, m.1)
with_lines k m (l ∷ ls) = cond m.0.fine (with_lines (k + 1) (with_line m.0.series l m.1) ls) (wrong_at k, m.1)

-- a function reads a text as p says: its answer is how many bytes are laid, or the wrong line, and the bytes that were lent to it are x
abbrev pub Reads : TextRead × Bytes → Result ℕ WrongLine → Bytes → Type 0
Reads p r x = (MatchResult r (λ n. (p.0 ≡ record { line = 0; length = n }) × (n ≤ length x)) (λ e. p.0 ≡ wrong_at e.0)) × (x ≡ p.1)

-- the same as one answer
abbrev pub Tells : Result ℕ WrongLine → TextRead → Type 0
Tells r t = MatchResult r (λ n. t ≡ record { line = 0; length = n }) (λ e. t ≡ wrong_at e.0)

-- into zeros, behind a first block of a kind; where there is no room even for that it is line 1
unfoldable pub text_laid : (kind business : ℕ) (t zeros : Bytes) → TextRead × Bytes
text_laid kind business t zeros =
    cond (less (length zeros) 512) (wrong_at 1, zeros)
    (with_lines 0 (laid true 0, with_block 0 (new_block kind business 0 0 [] (take 512 zeros)) zeros) (lines t))

-- zeros as many as the buffer b has bytes, but at most so many
unfoldable pub zeros_for : (most : ℕ) (b : Bytes) → Bytes
zeros_for most b = replicate (min (length b) most) 0

-- the answer, and the buffer b after it: what is laid, then what stood there before. Of a wrong text nothing is
unfoldable pub copied : (b : Bytes) → TextRead × Bytes → TextRead × Bytes
copied b p = (p.0, take p.0.length p.1 ++ drop p.0.length b)

-- at most 201 blocks
unfoldable pub message_text : (t b : Bytes) → TextRead × Bytes
message_text t b = copied b (text_laid 1 0 t (zeros_for 102912 b))

-- C-14: "A rights block (kind 4, series layout, type 3, …)"
unfoldable pub right_text : (t b : Bytes) → TextRead × Bytes
right_text t b = copied b (text_laid 4 3 t (zeros_for 512 b))

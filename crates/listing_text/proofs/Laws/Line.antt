-- The words of a line by the names of their definitions, and the lines one after another.
use Rattle.std.specs.Prelude.{◌≡◌, ◌∷◌, ◌++◌, ◌+◌, ◌<◌}
use Rattle.laws.specs.Kit.{sym, ap, ◌∙◌, true, false, cond, List, [], ℕ, suc, add-zero, arith, length, drop, get_or, Step, End}
use mir.Syntax.{w8}
use mir.Val.{Fits}
use Rattle.laws.specs.Lists.{All}
use Rattle.laws.specs.Bytes.{written}
use Rattle.laws.specs.Bytes.Laws.{number_small, written_none}
use Rattle.paper.specs.Layout.{Bytes, Block, first, partner}
use Rattle.paper.specs.Book.{is_series}
use Rattle.paper.specs.QuantityText.{decimal}
use Rattle.paper.specs.Listing.{series_line, series_lines}
use Rattle.listing_text.specs.Text.{Appended}
use Rattle.listing_text.proofs.Laws.{put_none, put_as, left}

-- ---- numbers of a mark, as they are kept in bytes

all_bytes : (b : Bytes) → ((i : ℕ) → Fits w8 (get_or b i 0)) → All (λ y. y < 256) b
all_bytes [] f = tt
all_bytes (x ∷ b) f = (omega (arith, f 0), all_bytes b (λ i. f (suc i)))

pub first_small : (x : Block) → ((i : ℕ) → Fits w8 (get_or x i 0)) → first x < 256
unfolding first
first_small x f = number_small 1 _ x (all_bytes x f)

pub partner_small : (x : Block) → ((i : ℕ) → Fits w8 (get_or x i 0)) → partner x < 65536
unfolding partner
partner_small x f = number_small 2 _ x (all_bytes x f)

-- ---- a word and a number by another name

module _ (e : ℕ) {at r : ℕ} {x y : Bytes} where
  pub word_as : {a b : Bytes} → a ≡ b → Appended at (a ++ e ∷ []) x r y → Appended at (b ++ e ∷ []) x r y
  word_as q f = rw (← q) f

  pub number_as : {m n : ℕ} → m ≡ n → Appended at (decimal m ++ e ∷ []) x r y → Appended at (decimal n ++ e ∷ []) x r y
  number_as q f = rw (← q) f

-- ---- the line of a slot

module _ (b : Block) (l : Bytes) {at : ℕ} {out : Bytes} where
  pub slot_none : is_series b ≡ false → Appended at (cond (is_series b) l []) out at out
  slot_none e = rw e (put_none at out)

  pub slot_line : {r : ℕ} {y : Bytes} → is_series b ≡ true → Appended at l out r y → Appended at (cond (is_series b) l []) out r y
  slot_line e f = rw e f

-- ---- the lines, slot by slot

module _ (l : List Block) (i : ℕ) {at q : ℕ} {out z : Bytes} where
  pub lines_turn : {r : ℕ} {y : Bytes} {b : Block} → Step l i b → Appended at (series_lines l (i + 1) (drop i l)) out q z
      → Appended at (cond (is_series b) (series_line l (i + 1) b) []) out r y → Appended r (series_lines l (i + 1 + 1) (drop (i + 1) l)) y q z
  unfolding series_lines
  lines_turn s f g = left (put_as (ap (series_lines l (i + 1)) s.rest) f) g

pub lines_end : (l : List Block) (i : ℕ) {at r : ℕ} {text out y : Bytes} → End l i → Appended r (series_lines l (i + 1) (drop i l)) y (at + length text) (written at text out)
    → Appended at text out r y
unfolding series_lines
lines_end l i {r = r} {y = y} s f =
    let g = put_as (ap (series_lines l (i + 1)) s.rest) f in
    record { place = sym (g.place ∙ add-zero r); bytes = sym (g.bytes ∙ written_none r y) }

-- A range of bytes, the rows of a table one after the other, quantities likewise, and what the tests of positions say.
use Rattle.std.specs.Prelude.{◌≡◌, cond, ◌∷◌, ◌+◌, ◌-◌, ◌≤◌, ◌<◌}
use Rattle.laws.specs.Kit.{refl, split, List, [], drop, get_or, drop-cons, add-one, drop_of_length-le, true, false, ℕ, suc, arith, length, ◌and◌, neg, is, less, upto, and_both, and_no_left, and_no_right, and_left, and_right, less_yes, upto_yes, is_equal, is_other}
use Rattle.laws.specs.Lists.{same, until}
use Rattle.paper.specs.Layout.{Bytes, Block, kind}
use Rattle.paper.specs.QuantityText.{quantity_read, unsigned_read, past_whole, past_minus, leading_digits, decimal_from}
use Rattle.paper.specs.Ids.{digit}
use Rattle.paper.specs.Listing.{text}
use Rattle.paper.specs.declared.QuantityRead.{QuantityRead}
use Rattle.layout.specs.declared.write.Field.{Field}
use Rattle.layout.specs.Written.{with_quantity}
use Rattle.message_words.specs.Words.{before, behind, lines, lines_up_to, word, value, number_of, first_of, last_of}
use Rattle.message_text.specs.declared.fill.Row.{Row}
use Rattle.message_text.specs.Rows.{field_by}
use Rattle.message_text.specs.MessageText.{Gives, sender_words, series_words, right_words, field, field_of, between, field_in, spread, with_positions}

-- ---- bytes of a block, from first to last

pub inside : (first last : ℕ) → (upto first last and less last 512) ≡ true → (first ≤ last) × (last < 512)
inside first last t = (upto_yes _ _ (and_left _ _ t), less_yes _ _ (and_right _ _ t))

pub between_inside : (first last : ℕ) → (between first last).at + (between first last).width ≤ 512
unfolding between
between_inside first last = split (upto first last and less last 512) (λ t. let h = inside first last t in rw t (omega (arith, h.0, h.1))) (λ t. rw t (omega arith))

pub table_inside : (rows : List Bytes) (w : Bytes) → (field_in rows w).at + (field_in rows w).width ≤ 512
unfolding field_in
table_inside [] w = omega arith
table_inside (l ∷ rows) w = split (same (word l) w) (λ t. rw t (between_inside (first_of (value l)) (last_of (value l)))) (λ t. rw t (table_inside rows w))

pub field_inside : (kind : ℕ) (w : Bytes) → (field_of kind w).at + (field_of kind w).width ≤ 512
unfolding field_of
field_inside kind w = table_inside _ w

-- ---- the rows of a program, of which those before i are passed; f is what all of them give

module _ (rows : List Row) (w : Bytes) (i : ℕ) (d : Row) {f : Field} (e : field_by (drop i rows) w ≡ f) where
  module _ (h : i < length rows) where
    row : field_by (get_or rows i d ∷ drop (i + 1) rows) w ≡ f
    row = rw (drop-cons rows i d h, ← add-one i) at e

    pub row_hit : same (get_or rows i d).word.now w ≡ true → (get_or rows i d).field ≡ f
    unfolding field_by
    row_hit s = rw s at row

    pub row_miss : same (get_or rows i d).word.now w ≡ false → field_by (drop (i + 1) rows) w ≡ f
    unfolding field_by
    row_miss s = rw s at row

  pub rows_end : length rows ≤ i → field 0 0 ≡ f
  unfolding field_by
  rows_end h = rw (drop_of_length-le rows h) at e

-- ---- quantities up to a position, of which those before k are written

module _ (last q : ℕ) where
  pub spread_more : (x y : Block) (k : ℕ) {t : Block} → k < last → y ≡ with_quantity k q x → spread (last - k) k q x ≡ t → spread (last - (k + 1)) (k + 1) q y ≡ t
  unfolding spread
  spread_more x y k h e p = let z : last - k ≡ suc (last - (k + 1)) = omega arith in rw e (rw z at p)

  pub spread_end : (x : Block) (k : ℕ) {t : Block} → last ≤ k → spread (last - k) k q x ≡ t → x ≡ t
  unfolding spread
  spread_end x k h p = let z : last - k ≡ 0 = omega arith in rw z at p

-- ---- positions, from what was read

module _ (w v : Bytes) (x : Block) {a first last : ℕ} {read : QuantityRead} (d : a ≡ kind x) (e : first ≡ first_of w) (f : last ≡ last_of w) (g : read ≡ quantity_read v) where
  pub positions_wrong : (neg (is a 1) and less 0 first and upto first last and upto last 100) ≡ false → Gives (with_positions w v x) false x
  unfolding with_positions
  positions_wrong h =
      let z : (neg (is (kind x) 1) and less 0 (first_of w) and upto (first_of w) (last_of w) and upto (last_of w) 100 and is (quantity_read v).number 0) ≡ false = and_no_left _ _ (rw (d, e, f) at h) in
      (rw z, rw z)

  pub quantity_wrong : (read.number ≡ 0 → ⊥) → Gives (with_positions w v x) false x
  unfolding with_positions
  quantity_wrong h =
      let z : (neg (is (kind x) 1) and less 0 (first_of w) and upto (first_of w) (last_of w) and upto (last_of w) 100 and is (quantity_read v).number 0) ≡ false = and_no_right _ _ (is_other _ _ (rw g at h)) in
      (rw z, rw z)

  pub positions_right : (neg (is a 1) and less 0 first and upto first last and upto last 100) ≡ true → read.number ≡ 0 → {y : Block} → y ≡ spread (last - (first - 1)) (first - 1) read.kilowatts x
      → Gives (with_positions w v x) true y
  unfolding with_positions
  positions_right h n r =
      let z : (neg (is (kind x) 1) and less 0 (first_of w) and upto (first_of w) (last_of w) and upto (last_of w) 100 and is (quantity_read v).number 0) ≡ true = and_both _ _ (rw (d, e, f) at h) (is_equal _ _ (rw g at n)) in
      (rw z, rw (z, ← e, ← f, ← g) r)

-- ---- the tables, row by row

module _ (w : Bytes) where
  pub sender_rows : field_in (lines sender_words) w ≡
      cond (same (text "n") w) (field 1 1)
      (cond (same (text "version") w) (field 2 2)
      (cond (same (text "message") w) (field 8 16)
      (cond (same (text "sender") w) (field 24 16)
      (cond (same (text "receiver") w) (field 40 16)
      (cond (same (text "day") w) (field 56 8)
      (field 0 0))))))
  unfolding sender_words field_in lines lines_up_to before behind until is word value first_of last_of number_of quantity_read unsigned_read past_whole past_minus leading_digits decimal_from neg digit between upto less ◌and◌ text
  sender_rows = refl

  pub series_rows : field_in (lines series_words) w ≡
      cond (same (text "version") w) (field 2 2)
      (cond (same (text "type") w) (field 4 1)
      (cond (same (text "contract") w) (field 5 1)
      (cond (same (text "area") w) (field 24 32)
      (cond (same (text "in-area") w) (field 24 16)
      (cond (same (text "out-area") w) (field 40 16)
      (cond (same (text "in") w) (field 56 16)
      (cond (same (text "out") w) (field 72 16)
      (cond (same (text "agreement") w) (field 88 16)
      (field 0 0)))))))))
  unfolding series_words field_in lines lines_up_to before behind until is word value first_of last_of number_of quantity_read unsigned_read past_whole past_minus leading_digits decimal_from neg digit between upto less ◌and◌ text
  series_rows = refl

  pub right_rows : field_in (lines right_words) w ≡
      cond (same (text "n") w) (field 1 1)
      (cond (same (text "contract") w) (field 5 1)
      (cond (same (text "in-area") w) (field 24 16)
      (cond (same (text "out-area") w) (field 40 16)
      (cond (same (text "holder") w) (field 56 32)
      (cond (same (text "agreement") w) (field 88 16)
      (field 0 0))))))
  unfolding right_words field_in lines lines_up_to before behind until is word value first_of last_of number_of quantity_read unsigned_read past_whole past_minus leading_digits decimal_from neg digit between upto less ◌and◌ text
  right_rows = refl

-- Names that are none, bytes that are no tag, the walk over a message turn by turn, and the text of a listing in a buffer that has room for it.
use Rattle.std.specs.Prelude.{◌≡◌, Bool, true, false, [], ◌∷◌, ℕ, suc, ◌+◌, ◌-◌, ◌≤◌, ◌<◌, length}
use Rattle.std.specs.Int.{from_bool}
use Rattle.std.proofs.Common.{refl, ⊎_elim, arith}
use Rattle.laws.specs.Bytes.{part}
use Rattle.laws.specs.Bytes.Laws.{part_written_same}
use Rattle.laws.specs.Slices.{part_past}
use Rattle.laws.specs.Tests.{◌and◌, ◌or◌, is, less}
use Rattle.laws.specs.Tests.Laws.{is_other, less_true, less_false, or_yes_left, upto_true}
use Rattle.stream.specs.declared.tag.Tag.{Tag}
use Rattle.stream.specs.declared.tag.Tag.TheVariants.{Length, Bytes as SetBytes, Book, Sum, Open, Clock, Submit, Mark, Block, Final, Plain, Reader, Walk, Listing, Sound, Eic, Id, Read, Print, Check, Seal, Code, Judge, OpenBy, Convert, Right, Settled}
use Rattle.stream.specs.Tags.{number_of}
use Rattle.stream.specs.Records.{known}
use Rattle.stream.specs.Records.Laws.{unknown_tag}
use Rattle.stream.specs.Line.{told_line}
use Rattle.stream.specs.Fields.{name_end, rest_from}
use Rattle.paper.specs.Layout.{Bytes}
use Rattle.paper.specs.Check.{check_from}
use Rattle.paper.specs.Sound.{sound}
use Rattle.reader.specs.Walk.{series_at}
use Rattle.listing_text.specs.Text.{text_length, text_into}
use Rattle.replay_answers.specs.Answers.{yes_or_no, reading_numbers, may_change, reads, numbers_told, line_of, book_after, walk_on}

-- ---- yes and no as numbers

pub as_number : (b : Bool) → from_bool b ≡ yes_or_no b
as_number true = refl
as_number false = refl

-- ---- where a name is none

-- what would stand behind it is none too, and does not fill the body
pub none_behind : (body : Bytes) → length body < 18446744073709551615 → name_end body 18446744073709551615 ≡ 18446744073709551615
unfolding name_end
none_behind body h = rw (or_yes_left _ _ (or_yes_left _ _ (upto_true (length body) 18446744073709551615 (omega arith))))

pub none_fills : (body : Bytes) → length body < 18446744073709551615 → is 18446744073709551615 (length body) ≡ false
none_fills body h = is_other _ _ (λ e. omega arith)

pub none_left : (body : Bytes) → length body < 18446744073709551615 → is (length (rest_from body 18446744073709551615)) 2 ≡ false
unfolding rest_from is
none_left body h = rw (part_past 18446744073709551615 (length body) body (omega arith))

-- ---- the line of a call that shows no bytes

pub plain_line : (t : Tag) (book body : Bytes) → (t ≡ Block → ⊥) → (t ≡ Reader → ⊥) → (t ≡ Listing → ⊥) → (t ≡ Print → ⊥) → (t ≡ Seal → ⊥)
    → line_of (number_of t) book body ≡ told_line (number_of t) (numbers_told (number_of t) book body)
unfolding line_of is
plain_line Length book body a b l p s = refl
plain_line SetBytes book body a b l p s = refl
plain_line Book book body a b l p s = refl
plain_line Sum book body a b l p s = refl
plain_line Open book body a b l p s = refl
plain_line Clock book body a b l p s = refl
plain_line Submit book body a b l p s = refl
plain_line Mark book body a b l p s = refl
plain_line Block book body a b l p s = absurd (a refl)
plain_line Final book body a b l p s = refl
plain_line Plain book body a b l p s = refl
plain_line Reader book body a b l p s = absurd (b refl)
plain_line Walk book body a b l p s = refl
plain_line Listing book body a b l p s = absurd (l refl)
plain_line Sound book body a b l p s = refl
plain_line Eic book body a b l p s = refl
plain_line Id book body a b l p s = refl
plain_line Read book body a b l p s = refl
plain_line Print book body a b l p s = absurd (p refl)
plain_line Check book body a b l p s = refl
plain_line Seal book body a b l p s = absurd (s refl)
plain_line Code book body a b l p s = refl
plain_line Judge book body a b l p s = refl
plain_line OpenBy book body a b l p s = refl
plain_line Convert book body a b l p s = refl
plain_line Right book body a b l p s = refl
plain_line Settled book body a b l p s = refl

-- ---- a byte that is no tag

module _ (n : ℕ) (book body : Bytes) where
  behind_line : 28 ≤ n → line_of n book body ≡ told_line n (numbers_told n book body)
  unfolding line_of
  behind_line h = rw (is_other n 9 (λ e. omega arith), is_other n 12 (λ e. omega arith), is_other n 14 (λ e. omega arith), is_other n 19 (λ e. omega arith), is_other n 21 (λ e. omega arith))

  behind_book : 28 ≤ n → book_after n book body ≡ book
  unfolding book_after may_change ◌and◌ ◌or◌
  behind_book h = rw (less_false n 5 (omega arith), less_false n 8 (omega arith), less_true 23 n (omega arith), less_false n 27 (omega arith))

  -- it is told what `sound` is
  pub behind_told : 28 ≤ n → numbers_told n book body ≡ yes_or_no (sound book) ∷ []
  unfolding numbers_told may_change reads reading_numbers ◌and◌ ◌or◌
  behind_told h =
      rw (less_false n 5 (omega arith), less_false n 8 (omega arith), less_true 23 n (omega arith), less_false n 27 (omega arith), less_false n 16 (omega arith), less_true 26 n (omega arith))
      (rw (is_other n 8 (λ e. omega arith), is_other n 10 (λ e. omega arith), is_other n 11 (λ e. omega arith), is_other n 13 (λ e. omega arith), is_other n 27 (λ e. omega arith)))

  pub none_line : known n ≡ false → line_of n book body ≡ told_line n (numbers_told n book body)
  unfolding line_of is
  none_line h = ⊎_elim (λ e. rw e refl) (λ l. behind_line l) (unknown_tag n h)

  pub none_book : known n ≡ false → book_after n book body ≡ book
  unfolding book_after less
  none_book h = ⊎_elim (λ e. rw e refl) (λ l. behind_book l) (unknown_tag n h)

-- ---- a walk and a listing

-- a series is there: it is counted and summed
pub walk_more : (m : Bytes) (k s : ℕ) → k < 200 → is (length (series_at m (k + 1))) 0 ≡ false → walk_on (200 - (k + 1)) m (k + 1) (check_from s (series_at m (k + 1))) ≡ walk_on (200 - k) m k s
unfolding walk_on
walk_more m k s h some =
    let left : 200 - k ≡ suc (200 - (k + 1)) = omega arith in
    rw (left, some)

-- none is there
pub walk_stop : (m : Bytes) (k s : ℕ) → k < 200 → is (length (series_at m (k + 1))) 0 ≡ true → walk_on (200 - k) m k s ≡ k ∷ s ∷ []
unfolding walk_on
walk_stop m k s h none =
    let left : 200 - k ≡ suc (200 - (k + 1)) = omega arith in
    rw (left, none)

-- no more may be asked for
pub walk_end : (m : Bytes) (k s : ℕ) → 200 ≤ k → walk_on (200 - k) m k s ≡ k ∷ s ∷ []
unfolding walk_on
walk_end m k s h =
    let left : 200 - k ≡ 0 = omega arith in
    rw left

pub text_read_back : (text buffer : Bytes) → length text ≤ length buffer → part 0 (text_length text (length buffer)) (text_into text buffer) ≡ text
unfolding text_length text_into
text_read_back text buffer h = rw (less_false _ _ h) (part_written_same 0 text buffer (omega arith))

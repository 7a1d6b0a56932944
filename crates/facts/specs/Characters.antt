-- The character that an opening or a verdict names is the EIC check's number of the code at fault, 0 elsewhere. Of a verdict: it is so of every rule's own, and the
-- first refusal is one of these.
use Rattle.std.specs.Prelude.{◌≡◌, ◌∷◌, ◌++◌, ◌+◌}
use Rattle.laws.specs.Base.{refl, sym, ap, ◌∙◌, Bool, true, false, cond, List, [], ℕ, zero, suc, add-one, arith, drop, get_or, drop-drop}
use Rattle.laws.specs.Tests.{is}
use Rattle.laws.specs.Tests.Laws.{is_no, is_equal, is_other}
use Rattle.laws.specs.Order.{first, along}
use Rattle.paper.specs.declared.Verdict.{Verdict}
use Rattle.paper.specs.Layout.{Bytes, Block, sender, in_party, out_party}
use Rattle.paper.specs.Eic.{eic_number, eic_valid}
use Rattle.paper.specs.Book.{numbered}
use Rattle.paper.specs.Message.{head_of, series_of}
use Rattle.paper.specs.Rules.{fine, number_of, ◌then◌, broken, broken_by, over_positions, wrong_character, head_verdict, form_verdict, quantity_verdict, closed_verdict, limit_verdict, right_verdict, late_verdict, values_verdict, series_verdict, each_series, last_verdict, judge, verdict}
use Rattle.paper.specs.Opening.{Opening, open_number, open_answer}
use Rattle.facts.specs.Eic.{first_named, second_named, good_two}

-- ---- opening

module _ (book : Bytes) (o : Opening) where
  pub area_first : open_number book o ≡ 21 → (eic_number o.area ≡ 0 → ⊥) → (open_answer book o).character ≡ eic_number o.area
  unfolding open_answer
  area_first e f = rw (is_equal _ _ e) (first_named _ _ f)

  pub receiver_second : open_number book o ≡ 21 → eic_number o.area ≡ 0 → (open_answer book o).character ≡ eic_number o.receiver
  unfolding open_answer
  receiver_second e f = rw (is_equal _ _ e) (second_named _ _ f)

  pub no_character : (open_number book o ≡ 21 → ⊥) → (open_answer book o).character ≡ 0
  unfolding open_answer
  no_character f = rw (is_other _ _ f)

-- ---- the parties of a series

module _ (y : Block) where
  pub in_party_first : (eic_number (in_party y) ≡ 0 → ⊥) → wrong_character y ≡ eic_number (in_party y)
  unfolding wrong_character
  in_party_first = first_named _ _

  pub out_party_second : eic_number (in_party y) ≡ 0 → wrong_character y ≡ eic_number (out_party y)
  unfolding wrong_character
  out_party_second = second_named _ _

  -- and so 0 where rule 8 is broken though both codes are good: equal parties, or neither the sender
  pub good_parties : eic_valid (in_party y) ≡ true → eic_valid (out_party y) ≡ true → wrong_character y ≡ 0
  unfolding wrong_character
  good_parties = good_two _ _

-- ---- submission

-- the series with a number, and those behind it
in_front : (l : List Block) (k : ℕ) (y : Block) (ys : List Block) → drop k l ≡ y ∷ ys → numbered l (k + 1) ≡ y
unfolding numbered
in_front l k y ys e = rw (add-one k) (by l k e)
  where
    by : (r : List Block) (j : ℕ) → drop j r ≡ y ∷ ys → get_or r j [] ≡ y
    by [] zero q = cc
    by [] (suc j) q = cc
    by (x ∷ r) zero q = cc
    by (x ∷ r) (suc j) q = by r j q

behind : (l : List Block) (k : ℕ) (y : Block) (ys : List Block) → drop k l ≡ y ∷ ys → drop (k + 1) l ≡ ys
behind l k y ys e = sym (drop-drop 1 k l) ∙ ap (drop 1) e

-- the character of an answer v to a message: on 4 the sender's, on 8 that of the parties of the series that v names
pub record Told (message : Bytes) (v : Verdict) : Type 0 where
  pub on_4 : number_of v ≡ 4 → v.character ≡ eic_number (sender (head_of message))
  pub on_8 : number_of v ≡ 8 → v.character ≡ wrong_character (numbered (series_of message) v.series)
  pub elsewhere : (number_of v ≡ 4 → ⊥) → (number_of v ≡ 8 → ⊥) → v.character ≡ 0

module _ (message : Bytes) where
  -- ---- the verdict of one rule

  told_0 : (v : Verdict) → v.character ≡ 0 → (number_of v ≡ 4 → ⊥) → (number_of v ≡ 8 → ⊥) → Told message v
  told_0 v z f g = record { on_4 = λ e. absurd (f e); on_8 = λ e. absurd (g e); elsewhere = λ a b. z }

  told_fine : Told message fine
  told_fine = told_0 fine refl (λ e. omega arith) (λ e. omega arith)

  told_broken : (test : Bool) (number series position : ℕ) → (number ≡ 4 → ⊥) → (number ≡ 8 → ⊥) → Told message (broken test number series position)
  unfolding broken
  told_broken true number series position f g = told_0 _ refl f g
  told_broken false number series position f g = told_fine

  told_4 : (test : Bool) → Told message (broken_by test 4 0 (eic_number (sender (head_of message))))
  unfolding broken_by
  told_4 true = record { on_4 = λ e. refl; on_8 = λ e. absurd (let z : ◌≡◌ {A = ℕ} 4 8 = e in omega arith); elsewhere = λ a b. absurd (a refl) }
  told_4 false = told_fine

  told_8 : (test : Bool) (number : ℕ) (y : Block) → numbered (series_of message) number ≡ y → Told message (broken_by test 8 number (wrong_character y))
  unfolding broken_by
  told_8 true number y i = record { on_4 = λ e. absurd (let z : ◌≡◌ {A = ℕ} 8 4 = e in omega arith); on_8 = λ e. ap wrong_character (sym i); elsewhere = λ a b. absurd (b refl) }
  told_8 false number y i = told_fine

  -- ---- the first refusal

  told_first : (v w : Verdict) → Told message v → Told message w → Told message (first number_of v w)
  unfolding first
  told_first v w p q = by (is (number_of v) 0)
    where
      by : (b : Bool) → Told message (cond b w v)
      by true = q
      by false = p

  told_then : (v w : Verdict) → Told message v → Told message w → Told message (v then w)
  unfolding ◌then◌
  told_then = told_first

  told_along : (at : ℕ → Verdict) → ((k : ℕ) → Told message (at k)) → (f k : ℕ) → Told message (along number_of fine at f k)
  unfolding along
  told_along at each zero k = told_fine
  told_along at each (suc f) k = told_first _ _ (each k) (told_along at each f (k + 1))

  told_positions : (at : ℕ → Verdict) → ((k : ℕ) → Told message (at k)) → Told message (over_positions at)
  unfolding over_positions
  told_positions at each = told_along at each 100 0

  -- ---- the order of the rules

  other : (number : ℕ) (test : Bool) (series position : ℕ) → is number 4 ≡ false → is number 8 ≡ false → Told message (broken test number series position)
  other number test series position f g = told_broken test number series position (is_no _ _ f) (is_no _ _ g)

  told_head : (day known : Block) → Told message (head_verdict day known (head_of message))
  unfolding head_verdict is
  told_head day known = told_then _ _ (other 3 _ 0 0 refl refl) (told_then _ _ (told_4 _) (told_then _ _ (other 5 _ 0 0 refl refl) (other 6 _ 0 0 refl refl)))

  module _ (day : Block) (own rights : List Block) (head : Block) (seen : List Block) (number : ℕ) (y : Block) where
    told_form : numbered (series_of message) number ≡ y → Told message (form_verdict day own head seen number y)
    unfolding form_verdict is
    told_form i =
        told_then _ _ (other 7 _ number 0 refl refl) (told_then _ _ (told_8 _ number y i) (told_then _ _ (other 9 _ number 0 refl refl) (other 10 _ number 0 refl refl)))

    told_right : (n : ℕ) → Told message (right_verdict n rights seen number y)
    unfolding right_verdict limit_verdict is
    told_right n = told_then _ _ (other 18 _ number 0 refl refl) (told_positions _ (λ k. other 19 _ number (k + 1) refl refl))

    told_values : (x : Block) → Told message (values_verdict day x rights head seen number y)
    unfolding values_verdict quantity_verdict late_verdict closed_verdict is
    told_values x =
        told_then _ _
        (told_positions _ (λ k. told_then _ _ (other 11 _ number (k + 1) refl refl) (told_then _ _ (other 12 _ number (k + 1) refl refl) (other 13 _ number (k + 1) refl refl))))
        (told_then _ _ (told_right _) (told_then _ _ (told_positions _ (λ k. other 14 _ number (k + 1) refl refl)) (other 15 _ number 0 refl refl)))

    told_series : numbered (series_of message) number ≡ y → Told message (series_verdict day own rights head seen number y)
    unfolding series_verdict
    told_series i = told_then _ _ (told_form i) (told_values _)

  -- ys are those from number k + 1 on
  told_each : (day : Block) (own rights : List Block) (head : Block) (seen : List Block) (k : ℕ) (ys : List Block) → drop k (series_of message) ≡ ys
      → Told message (each_series day own rights head seen (k + 1) ys)
  unfolding each_series
  told_each day own rights head seen k [] e = told_fine
  told_each day own rights head seen k (y ∷ ys) e =
      told_then _ _ (told_series day own rights head seen (k + 1) y (in_front (series_of message) k y ys e))
      (told_each day own rights head (seen ++ y ∷ []) (k + 1) ys (behind (series_of message) k y ys e))

  told_last : (known : Block) (own : List Block) (free : ℕ) (series : List Block) → Told message (last_verdict known own free series)
  unfolding last_verdict is
  told_last known own free series = told_then _ _ (other 16 _ 0 0 refl refl) (other 17 _ 0 0 refl refl)

  pub verdict_told_lem : (book : Bytes) → Told message (verdict book message)
  unfolding verdict judge is
  verdict_told_lem book =
      told_then _ _ (other 1 _ 0 0 refl refl)
      (told_then _ _ (other 2 _ 0 0 refl refl)
      (told_then _ _ (told_head _ _) (told_then _ _ (told_each _ _ _ _ [] 0 _ refl) (told_last _ _ _ _))))

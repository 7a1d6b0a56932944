-- What the loop that writes digits does in a turn, what the pieces of a text give together, and what each answer of printing leaves.
use Rattle.std.specs.Prelude.{◌≡◌, ◌∷◌, ◌+◌, ◌-◌, ◌/◌, ◌%◌, ◌≤◌, ◌<◌}
use Rattle.laws.specs.Kit.{refl, sym, ◌∙◌, ⊎_elim, Bool, true, false, cond, List, ℕ, zero, suc, add-zero, zero-add, arith, length, set, length-append, is, less, lt_or, less_true, less_false}
use Rattle.laws.specs.Bytes.{written}
use Rattle.laws.specs.Bytes.Laws.{written_none, written_cons, written_last, written_append, written_take_drop}
use Rattle.paper.specs.QuantityText.{last_digits, width_of, decimal, quantity_text, quantity_printed, printed_into}
use Rattle.quantity.specs.Digits.{places_by}

-- ---- how many digits a number has, of which some are counted

pub places_hit : (j x : ℕ) → x < 10 → places_by j x ≡ 1
unfolding places_by
places_hit zero x h = refl
places_hit (suc j) x h = rw (less_true x 10 h)

pub places_none : (j x : ℕ) → j ≤ 0 → places_by j x ≡ 1
unfolding places_by
places_none zero x h = refl
places_none (suc j) x h = absurd (omega arith)

pub places_turn : (j x : ℕ) → 0 < j → 10 ≤ x → places_by j x ≡ 1 + places_by (j - 1) (x / 10)
unfolding places_by
places_turn zero x h l = absurd (omega arith)
places_turn (suc j) x h l = let q : suc j - 1 ≡ j = omega arith in rw (less_false x 10 l, q)

-- before the point, by one question more for each digit
pub width_places : (x : ℕ) → width_of x ≡ places_by 3 x
unfolding width_of places_by
width_places x = rw (hundred x, thousand x) (joined (less x 10) (less (x / 10) 10) (less (x / 10 / 10) 10))
  where
    hundred : (x : ℕ) → less x 100 ≡ less (x / 10) 10
    hundred x = ⊎_elim (λ h. less_true x 100 h ∙ sym (less_true (x / 10) 10 (omega arith))) (λ h. less_false x 100 h ∙ sym (less_false (x / 10) 10 (omega arith))) (lt_or x 100)

    thousand : (x : ℕ) → less x 1000 ≡ less (x / 10 / 10) 10
    thousand x = ⊎_elim (λ h. less_true x 1000 h ∙ sym (less_true (x / 10 / 10) 10 (omega arith))) (λ h. less_false x 1000 h ∙ sym (less_false (x / 10 / 10) 10 (omega arith))) (lt_or x 1000)

    joined : (a b c : Bool) → cond a 1 (cond b 2 (cond c 3 4)) ≡ cond a 1 (1 + cond b 1 (1 + cond c 1 2))
    joined true b c = refl
    joined false true c = refl
    joined false false true = refl
    joined false false false = refl

-- ---- the last digits, from the last to the first

pub last_digits_length : (k x : ℕ) → length (last_digits k x) ≡ k
unfolding last_digits
last_digits_length zero x = refl
last_digits_length (suc k) x = simp (length-append, last_digits_length k (x / 10)) (omega arith)

pub put_turn : (b : List ℕ) (at i m : ℕ) {t : List ℕ} → 0 < i → written at (last_digits i m) b ≡ t
    → written at (last_digits (i - 1) (m / 10)) (set b (at + (i - 1)) (48 + m % 10)) ≡ t
unfolding last_digits
put_turn b at zero m h p = absurd (omega arith)
put_turn b at (suc i) m h p =
    let e : suc i - 1 ≡ i = omega arith in
    let q = written_last at (last_digits i (m / 10)) (48 + m % 10) b in
    rw e (rw (last_digits_length i (m / 10)) at q ∙ p)

pub put_end : (b : List ℕ) (at i m : ℕ) {t : List ℕ} → i ≤ 0 → written at (last_digits i m) b ≡ t → b ≡ t
unfolding last_digits
put_end b at zero m h p = rw (written_none at b) at p
put_end b at (suc i) m h p = absurd (omega arith)

pub text_length_lem : (kw : ℕ) → length (quantity_text kw) ≡ width_of (kw / 1000) + 4
unfolding quantity_text decimal
text_length_lem kw = simp (length-append, last_digits_length) (omega arith)

-- the whole megawatts, the point and the rest, written one after the other
pub text_written : (b o y : List ℕ) (k kw : ℕ) → k ≡ length (decimal (kw / 1000)) → o ≡ written 0 (decimal (kw / 1000)) b → y ≡ set o (k + 0) 46
    → written (k + 1) (last_digits 3 (kw % 1000)) y ≡ written 0 (quantity_text kw) b
unfolding quantity_text
text_written b o y k kw ek eo ey =
    let t : List ℕ = last_digits 3 (kw % 1000) in
    rw (written_append 0 (decimal (kw / 1000)) (46 ∷ t) b, ← eo, ← ek, zero-add, ey, add-zero) (sym (written_cons k 46 t o))

module _ (kw : ℕ) (b : List ℕ) where
  module _ (h : 9999999 < kw) where
    pub answer_large : record { number = 30; length = 0 } ≡ quantity_printed kw (length b)
    unfolding quantity_printed
    answer_large = rw (less_true _ _ h)

    pub into_large : b ≡ printed_into kw b
    unfolding printed_into is
    into_large = rw (← answer_large)

  module _ (k : ℕ) (h : kw ≤ 9999999) (e : k ≡ width_of (kw / 1000)) where
    module _ (s : length b < k + 4) where
      pub answer_short : record { number = 32; length = 0 } ≡ quantity_printed kw (length b)
      unfolding quantity_printed
      answer_short = rw (less_false _ _ h, text_length_lem kw, ← e, less_true _ _ s)

      pub into_short : b ≡ printed_into kw b
      unfolding printed_into is
      into_short = rw (← answer_short)

    module _ (f : k + 4 ≤ length b) where
      pub answer_text_lem : record { number = 0; length = k + 4 } ≡ quantity_printed kw (length b)
      unfolding quantity_printed
      answer_text_lem = rw (less_false _ _ h, text_length_lem kw, ← e, less_false _ _ f)

      pub into_text : written 0 (quantity_text kw) b ≡ printed_into kw b
      unfolding printed_into is
      into_text = rw (← answer_text_lem) (rw zero-add at (written_take_drop 0 (quantity_text kw) b (omega (arith, text_length_lem kw))))

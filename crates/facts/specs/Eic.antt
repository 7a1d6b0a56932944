-- Facts of the EIC check: the sum is 0 of fifteen zeros alone; the number names the first character that is not allowed or is missing; 0 says what document 01
-- asks of a valid code.
use Rattle.std.specs.Prelude.{◌≡◌, ◌∷◌, ◌+◌, ◌-◌, ◌*◌, ◌%◌, ◌≤◌, ◌<◌}
use Rattle.laws.specs.Base.{refl, sym, ap, ◌∙◌, Bool, true, false, cond, [], ℕ, zero, suc, mul-zero, suc-mul, arith, length, take, get_or, length-take, take_all}
use Rattle.laws.specs.Tests.{◌and◌, ◌or◌, neg, is, less, upto}
use Rattle.laws.specs.Tests.Laws.{split, clash, and_left, and_right, and_both, or_left, or_right, or_no, neg_yes, neg_no, neg_true, neg_false, is_yes, is_no, is_equal, is_other, less_yes, less_no, less_true, less_false, upto_yes}
use Rattle.laws.specs.Lists.{every, until}
use Rattle.laws.specs.Lists.Each.{all_imply, all_every, every_all, every_more, all_get_or_inside}
use Rattle.laws.specs.Lists.Search.{has_no_all}
use Rattle.laws.specs.Lists.Keep.{until_length, until_has, until_take}
use Rattle.paper.specs.Layout.{Bytes}
use Rattle.paper.specs.Ids.{digit, letter, hyphen}
use Rattle.paper.specs.Eic.{character_value, eic_character, weighted, eic_sum, allowed_in_front, sixteenth_right, eic_number, eic_number_of_two, eic_valid}

-- ---- a character

-- a byte is a digit, a letter, a hyphen or none of these, with the value of each
pub by_kind : {X : Type 0} (x : ℕ) → (48 ≤ x → x ≤ 57 → character_value x ≡ x - 48 → X) → (65 ≤ x → x ≤ 90 → character_value x ≡ x - 55 → X) → (x ≡ 45 → character_value x ≡ 36 → X)
    → (character_value x ≡ 255 → X) → X
unfolding character_value digit letter hyphen
by_kind x d l h n =
    split (digit x) (λ e. d (upto_yes _ _ (and_left _ _ e)) (upto_yes _ _ (and_right _ _ e)) (rw e))
    (λ e. split (letter x) (λ f. l (upto_yes _ _ (and_left _ _ f)) (upto_yes _ _ (and_right _ _ f)) (rw (e, f)))
    (λ f. split (hyphen x) (λ g. h (is_yes x 45 g) (rw (e, f, g))) (λ g. n (rw (e, f, g)))))

value_of_0 : character_value 48 ≡ 0
unfolding character_value digit ◌and◌ upto
value_of_0 = refl

pub value_0 : (x : ℕ) → character_value x ≡ 0 → x ≡ 48
value_0 x e = by_kind x (λ a b v. omega arith) (λ a b v. omega arith) (λ a v. absurd (omega arith)) (λ v. absurd (omega arith))

-- ---- the sum

weighted_0 : (w : ℕ) (l : Bytes) → length l ≤ w → weighted w l ≡ 0 → every (λ x. is x 48) l ≡ true
unfolding weighted every
weighted_0 w [] h e = refl
weighted_0 zero (x ∷ l) h e = absurd (omega arith)
weighted_0 (suc w) (x ∷ l) h e =
    let z : suc w - 1 ≡ w = omega arith in
    let s : w * character_value x + character_value x + weighted w l ≡ 0 = rw (suc-mul w (character_value x), z) at e in
    and_both _ _ (is_equal _ _ (value_0 x (omega arith))) (weighted_0 w l (omega arith) (omega arith))

weighted_zeros : (w : ℕ) (l : Bytes) → every (λ x. is x 48) l ≡ true → weighted w l ≡ 0
unfolding weighted every
weighted_zeros w [] e = refl
weighted_zeros w (x ∷ l) e = rw (is_yes _ _ (and_left _ _ e), value_of_0, mul-zero, weighted_zeros (w - 1) l (and_right _ _ e))

-- "No fifteen characters give s = 0 except fifteen zeros", and these do
pub sum_0 : (e : Bytes) → is (eic_sum e) 0 ≡ every (λ x. is x 48) (take 15 e)
unfolding eic_sum
sum_0 e = split (every (λ x. is x 48) (take 15 e)) (λ t. is_equal _ _ (weighted_zeros 16 (take 15 e) t) ∙ sym t) (λ f. is_other _ _ (λ z. clash (weighted_0 16 (take 15 e) short z) f) ∙ sym f)
  where
    short : length (take 15 e) ≤ 16
    short = rw (length-take 15 e) (omega arith)

-- ---- the run of allowed characters in front

-- a missing character reads as 0, which has no value
pub missing : eic_character 0 ≡ false
unfolding eic_character character_value digit letter hyphen ◌and◌ upto is neg
missing = refl

run_inside : (n : ℕ) (l : Bytes) (i : ℕ) → i < length (until (λ x. neg (eic_character x)) (take n l)) → eic_character (get_or l i 0) ≡ true
unfolding until
run_inside zero l i h = absurd (omega arith)
run_inside (suc n) [] i h = absurd (omega arith)
run_inside (suc n) (x ∷ l) zero h = split (eic_character x) (λ t. t) (λ t. absurd (let z = rw (neg_true _ t) at h in omega arith))
run_inside (suc n) (x ∷ l) (suc i) h =
    split (eic_character x)
    (λ t. run_inside n l i (let z = rw (neg_false _ t) at h in omega arith))
    (λ t. absurd (let z = rw (neg_true _ t) at h in omega arith))

run_end : (n : ℕ) (l : Bytes) → length (until (λ x. neg (eic_character x)) (take n l)) < n
    → eic_character (get_or l (length (until (λ x. neg (eic_character x)) (take n l))) 0) ≡ false
unfolding until
run_end zero l h = absurd (omega arith)
run_end (suc n) [] h = missing
run_end (suc n) (x ∷ l) h =
    split (eic_character x) (λ t. rw (neg_false _ t) (run_end n l (let z = rw (neg_false _ t) at h in omega arith))) (λ t. rw (neg_true _ t) t)

-- character k + 1 is the first that is not allowed or is missing
abbrev pub FirstWrong : (code : Bytes) (k : ℕ) → Type 0
FirstWrong code k = (eic_character (get_or code k 0) ≡ false) × ((i : ℕ) → i < k → eic_character (get_or code i 0) ≡ true)

abbrev pub FifteenAllowed : (code : Bytes) → Type 0
FifteenAllowed code = (i : ℕ) → i < 15 → eic_character (get_or code i 0) ≡ true

module _ (code : Bytes) where
  run_most : allowed_in_front code ≤ 15
  unfolding allowed_in_front
  run_most = omega (arith, until_length (λ x. neg (eic_character x)) (take 15 code), length-take 15 code)

  by_run : {X : Type 0} → (allowed_in_front code < 15 → X) → (15 ≤ allowed_in_front code → X) → X
  by_run short long = split (less (allowed_in_front code) 15) (λ t. short (less_yes _ _ t)) (λ t. long (less_no _ _ t))

  run_allowed : (i : ℕ) → i < allowed_in_front code → eic_character (get_or code i 0) ≡ true
  unfolding allowed_in_front
  run_allowed = run_inside 15 code

  run_stops : allowed_in_front code < 15 → eic_character (get_or code (allowed_in_front code) 0) ≡ false
  unfolding allowed_in_front
  run_stops = run_end 15 code

  -- the characters decide how long the run is
  run_is : (k : ℕ) → k < 15 → FirstWrong code k → allowed_in_front code ≡ k
  run_is k h f =
      split (less k (allowed_in_front code))
      (λ t. clash (run_allowed k (less_yes _ _ t)) f.0)
      (λ t. split (less (allowed_in_front code) k)
      (λ u. let s : allowed_in_front code < k = less_yes _ _ u in clash (f.1 _ s) (run_stops (omega arith)))
      (λ u. let s : k ≤ allowed_in_front code = less_no _ _ u in let r : allowed_in_front code ≤ k = less_no _ _ t in omega arith))

  run_whole : FifteenAllowed code → allowed_in_front code ≡ 15
  run_whole f = by_run (λ s. clash (f _ s) (run_stops s)) (λ s. omega (arith, run_most))

  run_every : 15 ≤ allowed_in_front code → every eic_character (take 15 code) ≡ true
  unfolding allowed_in_front
  run_every h =
      let run : Bytes = until (λ x. neg (eic_character x)) (take 15 code) in
      let all : take (length run) (take 15 code) ≡ take 15 code = take_all (length run) (take 15 code) (omega (arith, length-take 15 code)) in
      rw (sym all, until_take (λ x. neg (eic_character x)) (take 15 code) (length run) refl)
      (all_every eic_character run (all_imply (λ x. neg (eic_character x) ≡ false) (λ x. eic_character x ≡ true) (λ x. neg_no (eic_character x)) run
      (has_no_all _ run (until_has _ (take 15 code)))))

-- ---- the number

most_16 : (b : Bool) → cond b 16 0 ≤ 16
most_16 true = omega arith
most_16 false = omega arith

not_named : {X : Type 0} (b : Bool) {k : ℕ} → cond b 16 0 ≡ k + 1 → k < 15 → X
not_named true e h = absurd (omega arith)
not_named false e h = absurd (omega arith)

is_16 : (b : Bool) → ◌≡◌ {A = ℕ} (cond b 16 0) 16 → b ≡ true
is_16 true e = refl
is_16 false e = absurd (omega arith)

is_0 : (b : Bool) → ◌≡◌ {A = ℕ} (cond b 16 0) 0 → b ≡ false
is_0 true e = absurd (omega arith)
is_0 false e = refl

module _ (code : Bytes) where
  abbrev last_wrong : Bool
  last_wrong = is (eic_sum code) 0 or neg (sixteenth_right code)

  number_short : allowed_in_front code < 15 → eic_number code ≡ allowed_in_front code + 1
  unfolding eic_number
  number_short h = rw (less_true (allowed_in_front code) 15 h)

  number_long : 15 ≤ allowed_in_front code → eic_number code ≡ cond last_wrong 16 0
  unfolding eic_number
  number_long h = rw (less_false (allowed_in_front code) 15 h)

  pub number_most : eic_number code ≤ 16
  number_most = by_run code (λ s. omega (arith, number_short s)) (λ s. rw (number_long s) (most_16 last_wrong))

  -- 1 to 15 exactly for the first character that is not allowed or is missing
  pub number_names : (k : ℕ) → k < 15 → eic_number code ≡ k + 1 → FirstWrong code k
  number_names k h e =
      by_run code
      (λ s. let r : allowed_in_front code ≡ k = omega (arith, number_short s) in (rw r at (run_stops code s), λ i g. run_allowed code i (omega arith)))
      (λ s. not_named last_wrong (sym (number_long s) ∙ e) h)

  pub named_number : (k : ℕ) → k < 15 → FirstWrong code k → eic_number code ≡ k + 1
  named_number k h f = number_short (omega (arith, run_is code k h f)) ∙ omega (arith, run_is code k h f)

  -- 16 exactly where the first fifteen are allowed, and are all 0 or the sixteenth is wrong
  pub number_16 : eic_number code ≡ 16 → FifteenAllowed code × ((every (λ x. is x 48) (take 15 code) or neg (sixteenth_right code)) ≡ true)
  number_16 e =
      by_run code (λ s. absurd (omega (arith, number_short s)))
      (λ s. (λ i g. run_allowed code i (omega arith), rw (sum_0 code) at (is_16 last_wrong (sym (number_long s) ∙ e))))

  pub sixteen_number : FifteenAllowed code → (every (λ x. is x 48) (take 15 code) or neg (sixteenth_right code)) ≡ true → eic_number code ≡ 16
  sixteen_number f w = number_long (omega (arith, run_whole code f)) ∙ rw (sum_0 code, w)

-- ---- a valid code

-- what document 01 asks of it: sixteen characters, each with a value, a sum, and the sixteenth that is due
abbrev pub asked : (code : Bytes) → Bool
asked code =
    is (length code) 16
    and every eic_character code
    and neg (is (eic_sum code) 0)
    and neg (hyphen (get_or code 15 0))
    and is (character_value (get_or code 15 0)) (36 - (eic_sum code - 1) % 37)

module _ (code : Bytes) where
  number_0 : eic_valid code ≡ true → (15 ≤ allowed_in_front code) × (last_wrong code ≡ false)
  unfolding eic_valid
  number_0 v =
      let e : eic_number code ≡ 0 = is_yes _ _ v in
      by_run code (λ s. absurd (omega (arith, number_short code s))) (λ s. (s, is_0 (last_wrong code) (sym (number_long code s) ∙ e)))

  every_sixteen : length code ≡ 16 → every eic_character code ≡ (every eic_character (take 15 code) and eic_character (get_or code 15 0))
  every_sixteen n = sym (ap (every eic_character) (take_all 16 code (omega arith))) ∙ every_more eic_character code 15 0 (omega arith)

  -- a value that is due is no mark
  due_allowed : (s : ℕ) → is (character_value (get_or code 15 0)) (36 - s % 37) ≡ true → eic_character (get_or code 15 0) ≡ true
  unfolding eic_character
  due_allowed s d = let e = is_yes _ _ d in neg_true _ (is_other _ _ (λ z. omega arith))

  valid_asked : eic_valid code ≡ true → asked code ≡ true
  unfolding sixteenth_right
  valid_asked v =
      let q = number_0 v in
      let r = neg_no _ (or_right _ _ q.1) in
      let n = and_left _ _ (and_left _ _ r) in
      let d = and_right _ _ r in
      let c = every_sixteen (is_yes _ _ n) ∙ and_both _ _ (run_every code q.0) (due_allowed (eic_sum code - 1) d) in
      and_both _ _ (and_both _ _ (and_both _ _ (and_both _ _ n c) (neg_true _ (or_left _ _ q.1))) (and_right _ _ (and_left _ _ r))) d

  asked_valid : asked code ≡ true → eic_valid code ≡ true
  unfolding sixteenth_right eic_valid
  asked_valid w =
      let h = and_left _ _ w in
      let s = and_left _ _ h in
      let c = and_left _ _ s in
      let n : length code ≡ 16 = is_yes _ _ (and_left _ _ c) in
      let f : FifteenAllowed code = λ i g. all_get_or_inside (λ x. eic_character x ≡ true) code i 0 (omega arith) (every_all _ _ (and_right _ _ c)) in
      let r = and_both _ _ (and_both _ _ (and_left _ _ c) (and_right _ _ h)) (and_right _ _ w) in
      is_equal _ _ (number_long code (omega (arith, run_whole code f)) ∙ rw (or_no _ _ (neg_yes _ (and_right _ _ s)) (neg_false _ r)))

  pub eic_valid_says : eic_valid code ≡ asked code
  eic_valid_says = split (eic_valid code) (λ t. t ∙ sym (valid_asked t)) (λ t. t ∙ sym (split (asked code) (λ u. clash (asked_valid u) t) (λ u. u)))

  pub eic_length : eic_valid code ≡ true → length code ≡ 16
  unfolding sixteenth_right
  eic_length v = is_yes _ _ (and_left _ _ (and_left _ _ (neg_no _ (or_right _ _ (number_0 v).1))))

-- ---- two codes

module _ (first second : Bytes) where
  pub first_named : (eic_number first ≡ 0 → ⊥) → eic_number_of_two first second ≡ eic_number first
  unfolding eic_number_of_two
  first_named f = rw (is_other _ _ f)

  pub second_named : eic_number first ≡ 0 → eic_number_of_two first second ≡ eic_number second
  unfolding eic_number_of_two
  second_named e = rw (is_equal _ _ e)

  -- 0 exactly where both are good
  pub two_good : eic_number_of_two first second ≡ 0 → (eic_valid first ≡ true) × (eic_valid second ≡ true)
  unfolding eic_number_of_two eic_valid
  two_good e = split (is (eic_number first) 0) (λ t. (t, is_equal _ _ (rw t at e))) (λ t. absurd (is_no _ _ t (rw t at e)))

  pub good_two : eic_valid first ≡ true → eic_valid second ≡ true → eic_number_of_two first second ≡ 0
  unfolding eic_valid
  good_two v w = second_named (is_yes _ _ v) ∙ is_yes _ _ w

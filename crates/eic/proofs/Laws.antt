-- Laws of the check, as the code asks for them.
use Rattle.std.specs.Prelude.{◌≡◌, ◌+◌, ◌-◌, ◌*◌, ◌≤◌, ◌<◌, ◌%◌, ◌∷◌}
use Rattle.laws.specs.Kit.{refl, sym, ap, ◌∙◌, Bool, true, false, List, ℕ, arith, length, take, get_or, split, zero, suc, [], map, mul-le-mul, add_assoc, add-zero, zero-add, add-one, set, length-map, take_all, take-suc, ◌and◌, neg, is, and_left, and_right, and_no_right, is_yes, is_no, is_equal, is_other, upto_yes}
use native.Mathlib.Nat.{one-mul}
use lib.Seq.{take-suc-set}
use Rattle.laws.specs.Tests.Laws.{neg_yes}
use Rattle.laws.specs.Lists.{every}
use Rattle.laws.specs.Lists.Each.{every_more, get_or_map, map_append}
use Rattle.paper.specs.Ids.{digit, letter, hyphen}
use Rattle.facts.specs.Eic.{eic_valid_says}
use Rattle.paper.specs.Eic.{character_value, eic_character, weighted, eic_sum, eic_valid}
use Rattle.eic.specs.Values.{known, weighted_values}

pub term_small : (w v : ℕ) → w ≤ 16 → v < 256 → w * v ≤ 4080
term_small w v h k = mul-le-mul {m₂ = 255} h (omega arith)

-- ---- a character

pub digit_from : (x : ℕ) → digit x ≡ true → (48 ≤ x) × (x ≤ 57)
unfolding digit
digit_from x t = (upto_yes 48 x (and_left _ _ t), upto_yes x 57 (and_right _ _ t))

pub letter_from : (x : ℕ) → letter x ≡ true → (65 ≤ x) × (x ≤ 90)
unfolding letter
letter_from x t = (upto_yes 65 x (and_left _ _ t), upto_yes x 90 (and_right _ _ t))

-- what has a value has at most 36
value_most : (x : ℕ) → eic_character x ≡ true → character_value x ≤ 36
unfolding eic_character character_value
value_most x t =
    split (digit x)
    (λ d. rw d (omega (arith, (digit_from x d).1)))
    (λ d.
    split (letter x)
    (λ l. rw (d, l) (omega (arith, (letter_from x l).1)))
    (λ l. split (hyphen x) (λ h. rw (d, l, h) (omega arith)) (λ h. absurd (is_no _ _ (neg_yes _ t) (rw (d, l, h))))))

-- ---- a pass over the values

pub weighted_more : (w : ℕ) (l : List ℕ) (i : ℕ) → i < length l → weighted_values w (take (i + 1) l) ≡ weighted_values w (take i l) + (w - i) * get_or l i 0
unfolding weighted_values
weighted_more w [] i h = absurd (omega arith)
weighted_more w (x ∷ l) zero h = let e : w - 0 ≡ w = omega arith in rw (add-zero (w * x), e) (sym (zero-add (w * x)))
weighted_more w (x ∷ l) (suc i) h =
    let e : w - 1 - i ≡ w - suc i = omega arith in
    let k : i < length l = omega arith in
    let more = rw (add-one i, e) at (weighted_more (w - 1) l i k) in
    rw (add-one (suc i)) (ap (λ n. w * x + n) more ∙ sym (add_assoc (w * x) _ _))

by_values : (w : ℕ) (l : List ℕ) → weighted w l ≡ weighted_values w (map character_value l)
unfolding weighted weighted_values
by_values w [] = refl
by_values w (x ∷ l) = rw (by_values (w - 1) l)

map_take : (i : ℕ) (l : List ℕ) → take i (map character_value l) ≡ map character_value (take i l)
map_take zero l = refl
map_take (suc i) [] = refl
map_take (suc i) (x ∷ l) = ap (λ (r : List ℕ). character_value x ∷ r) (map_take i l)

known_values : (l : List ℕ) → every eic_character l ≡ every known (map character_value l)
unfolding every known eic_character
known_values [] = refl
known_values (x ∷ l) = rw (known_values l)

-- one value more is written
pub values_more : (s vs : List ℕ) (i v : ℕ) → i < length s → i < length vs → take i vs ≡ map character_value (take i s) → v ≡ character_value (get_or s i 0) → take (i + 1) (set vs i v) ≡ map character_value (take (i + 1) s)
values_more s vs i v h k e q =
    rw (add-one i, take-suc-set vs i v k, take-suc s i 0 h, map_append character_value (take i s) (get_or s i 0 ∷ []), e, q)

-- ---- the whole check, by the sum

-- the character that is due makes the whole sum a multiple of 37
due : (s v : ℕ) → v ≤ 36 → is v (36 - s % 37) ≡ is ((suc s + v) % 37) 0
due s v h =
    split (is v (36 - s % 37))
    (λ e. let k : v ≡ 36 - s % 37 = is_yes _ _ e in rw e (sym (is_equal _ _ (omega arith))))
    (λ e. let k : v ≡ 36 - s % 37 → ⊥ = is_no _ _ e in rw e (sym (is_other _ _ (λ z. k (omega arith)))))

by_sum : (s v : ℕ) (b : Bool) → v ≤ 36 → (neg (is s 0) and b and is v (36 - (s - 1) % 37)) ≡ (neg (is (s + v) 0) and b and is ((s + v) % 37) 0)
unfolding ◌and◌ neg
by_sum zero v b h =
    split (is v 0)
    (λ e. rw (is_equal 0 0 refl, is_yes v 0 e, is_equal 0 0 refl))
    (λ e. rw (is_equal 0 0 refl, is_other ((0 + v) % 37) 0 (λ z. is_no v 0 e (omega arith))) (sym (and_no_right (neg (is (0 + v) 0) and b) false refl)))
by_sum (suc s) v b h =
    let e : suc s - 1 ≡ s = omega arith in
    rw (e, is_other (suc s) 0 (λ z. omega arith), is_other (suc s + v) 0 (λ z. omega arith), due s v h)

module _ (code : List ℕ) (n : length code ≡ 16) where
  abbrev pub values : List ℕ
  values = map character_value code

  sixteen : take 16 code ≡ code
  sixteen = take_all 16 code (omega arith)

  -- all sixteen at weights 16 to 1: the first fifteen at 16 to 2, and the sixteenth
  whole_sum : weighted_values 16 values ≡ eic_sum code + character_value (get_or code 15 0)
  unfolding eic_sum
  whole_sum =
      let all : take 16 values ≡ values = map_take 16 code ∙ ap (map character_value) sixteen in
      let inside : 15 < length values = rw (length-map code character_value) (omega arith) in
      sym (ap (weighted_values 16) all)
      ∙ weighted_more 16 values 15 inside
      ∙ rw (map_take 15 code, sym (by_values 16 (take 15 code)), get_or_map character_value code 15 0 0 (omega arith), one-mul (character_value (get_or code 15 0)))

  last_known : every eic_character code ≡ true → eic_character (get_or code 15 0) ≡ true
  last_known e = and_right _ _ (sym (every_more eic_character code 15 0 (omega arith)) ∙ ap (every eic_character) sixteen ∙ e)

  pub valid_by_sum : eic_valid code ≡ (every known values and neg (is (weighted_values 16 values) 0) and neg (hyphen (get_or code 15 0)) and is (weighted_values 16 values % 37) 0)
  unfolding ◌and◌
  valid_by_sum =
      eic_valid_says code
      ∙ split (every eic_character code)
      (λ e. rw (is_equal _ _ n, sym (known_values code), e, whole_sum) (by_sum (eic_sum code) _ (neg (hyphen (get_or code 15 0))) (value_most _ (last_known e))))
      (λ e. rw (is_equal _ _ n, sym (known_values code), e))

-- The check of a block: it goes byte by byte and stays below 4,294,967,296; 31 has an inverse by that number, so that no two checks meet in a step
-- and one changed byte is always noticed; and a sealed block's check is right.
use Rattle.std.specs.Prelude.{◌≡◌, ◌∷◌, ◌++◌, ◌+◌, ◌-◌, ◌*◌, ◌/◌, ◌≤◌, ◌<◌}
use Rattle.laws.specs.Base.{refl, sym, ap, ◌∙◌, true, false, List, [], ℕ, suc, add-one, arith, length, take, drop, get_or, set, drop_of_length-le, length-take, take-append-drop, drop-cons, drop-drop, get_or-take, set_split, split_at, take-set-lt}
use Rattle.std.proofs.Common.{⊎_elim}
use Rattle.laws.specs.Tests.Laws.{lt_or, is_yes, is_equal, is_other}
use Rattle.laws.specs.Bytes.{part, written, little, number}
use Rattle.laws.specs.Bytes.Laws.{written_length, take_written, written_elsewhere, written_again, part_written_before, little_length, number_written, number_written_after}
use Rattle.paper.specs.Check.{check_step, check_from, check_of, check_right, sealed}

-- ---- below 4,294,967,296

pub check_step_less : (c b : ℕ) → check_step c b < 4294967296
unfolding check_step
check_step_less c b = omega arith

pub check_from_less : (c : ℕ) (s : List ℕ) → c < 4294967296 → check_from c s < 4294967296
unfolding check_from
check_from_less c [] h = h
check_from_less c (b ∷ s) h = check_from_less (check_step c b) s (check_step_less c b)

pub check_of_less : (b : List ℕ) → check_of b < 4294967296
unfolding check_of
check_of_less b = check_from_less 0 (take 508 b) (omega arith)

-- ---- over a list's length, once

-- one byte of the rest
pub check_from_more : (c i : ℕ) (s : List ℕ) → i < length s → check_from c (drop i s) ≡ check_from (check_step c (get_or s i 0)) (drop (i + 1) s)
unfolding check_from
check_from_more c i s h = rw (add-one i, drop-cons s i 0 h)

-- no byte is left
pub check_from_end : (c i : ℕ) (s : List ℕ) → length s ≤ i → check_from c (drop i s) ≡ c
unfolding check_from
check_from_end c i s h = rw (drop_of_length-le s h)

pub check_from_append : (c : ℕ) (s t : List ℕ) → check_from c (s ++ t) ≡ check_from (check_from c s) t
unfolding check_from
check_from_append c [] t = refl
check_from_append c (b ∷ s) t = check_from_append (check_step c b) s t

-- some bytes of the rest
pub check_from_part : (c i n : ℕ) (s : List ℕ) → check_from c (drop i s) ≡ check_from (check_from c (part i n s)) (drop (i + n) s)
unfolding part
check_from_part c i n s =
    ap (check_from c) (sym (take-append-drop n (drop i s))) ∙ check_from_append c (take n (drop i s)) (drop n (drop i s)) ∙ ap (check_from (check_from c (take n (drop i s)))) (drop-drop n i s)

-- ---- one changed byte is noticed

-- 3,186,588,639 times 31 is 1 more than 23 times 4,294,967,296
odd : (x k : ℕ) → 31 * x ≡ 4294967296 * k → x < 4294967296 → x ≡ 0
odd x k h l =
    let y : ℕ = 3186588639 * k - 23 * x in
    let e : k ≡ 31 * y = omega arith in
    none x y (omega arith) l
  where
    none : (x y : ℕ) → x ≡ 4294967296 * y → x < 4294967296 → x ≡ 0
    none x y h l = omega arith

check_step_apart_le : (c d b : ℕ) → c ≤ d → d < 4294967296 → check_step c b ≡ check_step d b → c ≡ d
unfolding check_step
check_step_apart_le c d b l hd h =
    let k : ℕ = (32 * d - d + b) / 4294967296 - (32 * c - c + b) / 4294967296 in
    let e : 31 * (d - c) ≡ 4294967296 * k = omega arith in
    let z : d - c ≡ 0 = odd (d - c) k e (omega arith) in
    omega arith

-- the same byte leads from different checks to different checks
pub check_step_apart : (c d b : ℕ) → c < 4294967296 → d < 4294967296 → check_step c b ≡ check_step d b → c ≡ d
check_step_apart c d b hc hd h = ⊎_elim (λ l. check_step_apart_le c d b (omega arith) hd h) (λ l. sym (check_step_apart_le d c b l hc (sym h))) (lt_or c d)

-- so do the same bytes
pub check_from_apart : (s : List ℕ) (c d : ℕ) → c < 4294967296 → d < 4294967296 → check_from c s ≡ check_from d s → c ≡ d
unfolding check_from
check_from_apart [] c d hc hd h = h
check_from_apart (b ∷ s) c d hc hd h = check_step_apart c d b hc hd (check_from_apart s (check_step c b) (check_step d b) (check_step_less c b) (check_step_less d b) h)

-- different bytes lead from the same check to different checks
check_step_byte : (c b e : ℕ) → b < 256 → e < 256 → check_step c b ≡ check_step c e → b ≡ e
unfolding check_step
check_step_byte c b e hb he h = omega arith

pub check_from_byte : (s t : List ℕ) (c b e : ℕ) → b < 256 → e < 256 → check_from c (s ++ b ∷ t) ≡ check_from c (s ++ e ∷ t) → b ≡ e
unfolding check_from
check_from_byte [] t c b e hb he h = check_step_byte c b e hb he (check_from_apart t (check_step c b) (check_step c e) (check_step_less c b) (check_step_less c e) h)
check_from_byte (x ∷ s) t c b e hb he h = check_from_byte s t (check_step c x) b e hb he h

module _ (b : List ℕ) (i v : ℕ) (inside : i < 508) (whole : 508 ≤ length b) (old : get_or b i 0 < 256) (new : v < 256) where
  -- any position of bytes 0–507, any other byte: another check
  pub check_of_byte : check_of (set b i v) ≡ check_of b → v ≡ get_or b i 0
  unfolding check_of
  check_of_byte h =
      let l : i < length (take 508 b) = simp length-take (omega arith) in
      let g : get_or (take 508 b) i 0 ≡ get_or b i 0 = get_or-take 508 b i 0 inside in
      let p : take 508 (set b i v) ≡ take i (take 508 b) ++ v ∷ drop (suc i) (take 508 b) = take-set-lt 508 b i v inside ∙ set_split (take 508 b) i v l in
      let q : take 508 b ≡ take i (take 508 b) ++ get_or b i 0 ∷ drop (suc i) (take 508 b) =
      split_at (take 508 b) i 0 l ∙ ap (λ x. take i (take 508 b) ++ x ∷ drop (suc i) (take 508 b)) g
      in
      check_from_byte (take i (take 508 b)) (drop (suc i) (take 508 b)) 0 v (get_or b i 0) new old (sym (ap (check_from 0) p) ∙ h ∙ ap (check_from 0) q)

  check_number_untouched : number 4 508 (set b i v) ≡ number 4 508 b
  unfolding written
  check_number_untouched = number_written_after 4 508 i (v ∷ []) b (omega arith)

  -- a block whose check is right has a wrong one after the change
  pub changed_byte_noticed : check_right b ≡ true → (v ≡ get_or b i 0 → ⊥) → check_right (set b i v) ≡ false
  unfolding check_right
  changed_byte_noticed r n = is_other _ _ (λ e. n (check_of_byte (sym e ∙ check_number_untouched ∙ is_yes _ _ r)))

-- ---- a sealed block

pub sealed_length : (b : List ℕ) → length (sealed b) ≡ length b
unfolding sealed
sealed_length b = written_length 508 (little 4 (check_of b)) b

-- what stands in bytes 0–507 is as it was
pub part_sealed : (o n : ℕ) (b : List ℕ) → o + n ≤ 508 → part o n (sealed b) ≡ part o n b
unfolding sealed
part_sealed o n b h = part_written_before o n 508 (little 4 (check_of b)) b h

pub check_of_sealed : (b : List ℕ) → check_of (sealed b) ≡ check_of b
unfolding check_of sealed
check_of_sealed b = ap (check_from 0) (take_written 508 508 (little 4 (check_of b)) b (omega arith))

-- what was sealed is as good as what was not, where something is written before the check and sealed again
pub sealed_again : (o : ℕ) (u v b : List ℕ) → o + length u ≤ 508 → length u ≡ length v → sealed (written o u (sealed (written o v b))) ≡ sealed (written o u b)
unfolding sealed check_of
sealed_again o u v b h e =
    let c : List ℕ = little 4 (check_of (written o v b)) in
    let p : written o u (written 508 c (written o v b)) ≡ written 508 c (written o u b) =
    written_elsewhere o 508 u c (written o v b) h ∙ ap (written 508 c) (written_again o u v b e)
    in
    ap (λ w. written 508 (little 4 (check_of w)) w) p
    ∙ ap (λ k. written 508 (little 4 k) (written 508 c (written o u b))) (ap (check_from 0) (take_written 508 508 c (written o u b) (omega arith)))
    ∙ written_again 508 (little 4 (check_of (written o u b))) c (written o u b) (little_length 4 _ ∙ sym (little_length 4 _))

pub sealed_right : (b : List ℕ) → length b ≡ 512 → check_right (sealed b) ≡ true
unfolding check_right sealed
sealed_right b l = is_equal _ _ (number_written 4 508 (check_of b) b (omega arith) (check_of_less b) ∙ sym (check_of_sealed b))

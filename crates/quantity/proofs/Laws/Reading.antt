-- One turn of each loop that reads: the run of digits goes on or ends, the number grows by a digit and stays small.
use Rattle.std.specs.Prelude.{◌≡◌, ◌+◌, ◌-◌, ◌*◌, ◌^◌, ◌≤◌, ◌<◌, ◌∷◌}
use Rattle.laws.specs.Kit.{refl, sym, true, false, Bool, cond, not, [], List, ℕ, pow-suc, pow-le-pow_right, mul-le-mul, add-one, arith, length, get_or, take, drop, drop_of_length-le, drop-cons, ◌and◌, is, upto, neg, and_true, is_other, and_both, upto_true, is_equal}
use Rattle.laws.specs.Lists.{every, until}
use Rattle.std.specs.Cmp.Lexicographic.{pointwise}
use lib.Dec.{eqb}
use Rattle.laws.specs.Lists.Each.{every_all, all_get_or_inside}
use Rattle.laws.specs.Lists.Keep.{until_take}
use Rattle.paper.specs.Ids.{digit}
use Rattle.paper.specs.QuantityText.{leading_digits, decimal_from, read_refused, read_as, worth, past_point, past_whole, unsigned_read}

all_passed : (p : ℕ → Bool) (l : List ℕ) → every p (until (λ x. neg (p x)) l) ≡ true
unfolding every until neg ◌and◌
all_passed p [] = refl
all_passed p (x ∷ xs) = by (p x) refl (all_passed p xs)
  where
    by : (b : Bool) → p x ≡ b → every p (until (λ y. neg (p y)) xs) ≡ true → every p (cond (not b) [] (x ∷ until (λ y. neg (p y)) xs)) ≡ true
    by true e h = rw (e, h)
    by false e h = refl

pub run_digits : (s : List ℕ) (m : ℕ) → m ≡ length (until (λ x. neg (digit x)) s) → every digit (take m s) ≡ true
run_digits s m e = rw (until_take (λ x. neg (digit x)) s m e) (all_passed digit s)

-- a text that starts with b
pub starts_with : (s : List ℕ) (b : ℕ) → 0 < b → pointwise eqb (take 1 s) (b ∷ []) ≡ is (get_or s 0 0) b
unfolding is ◌and◌
starts_with [] b h = sym (is_other 0 b (λ z. omega arith))
starts_with (x ∷ xs) b h = and_true (eqb x b)

module _ (s : List ℕ) (i : ℕ) where
  pub each_digit : i < length s → every digit s ≡ true → digit (get_or s i 0) ≡ true
  each_digit h e = all_get_or_inside (λ x. digit x ≡ true) s i 0 h (every_all digit s e)

  pub decimal_turn : (a d : ℕ) {t : ℕ} → i < length s → d ≡ get_or s i 0 - 48 → decimal_from a (drop i s) ≡ t → decimal_from (10 * a + d) (drop (i + 1) s) ≡ t
  unfolding decimal_from
  decimal_turn a d h q p = rw (q, add-one) (rw (drop-cons s i 0) at p)

  pub decimal_end : (a : ℕ) {t : ℕ} → length s ≤ i → decimal_from a (drop i s) ≡ t → a ≡ t
  unfolding decimal_from
  decimal_end a h p = rw (drop_of_length-le s h) at p

pub small_turn : (i a d : ℕ) → a < 10 ^ i → d < 10 → 10 * a + d < 10 ^ (i + 1)
small_turn i a d h k = rw (add-one i, pow-suc) (omega arith)

pub small_end : (i a : ℕ) → i ≤ 5 → a < 10 ^ i → a < 100000
small_end i a h k = let q : 10 ^ i ≤ 10 ^ 5 = pow-le-pow_right (omega arith) h in omega arith

pub product_small : (a b : ℕ) → a < 100000 → b ≤ 100 → a * b ≤ 10000000
product_small a b h k = let q : a * b ≤ 100000 * 100 = mul-le-mul {n₂ = 100000} (omega arith) k in omega arith

-- ---- the run of m digits that a text starts with

module _ (s : List ℕ) (m : ℕ) (e : m ≡ leading_digits s) where
  module _ (w : ℕ) where
    pub point_refused : (upto 1 m and upto m 3 and is m (length s)) ≡ false → read_refused 30 ≡ past_point w s
    unfolding past_point
    point_refused f = rw (← e, f)

    pub point_read : 1 ≤ m → m ≤ 3 → m ≡ length s → (d v : ℕ) → d ≡ decimal_from 0 s → v ≡ worth m → read_as (1000 * w + d * v) ≡ past_point w s
    unfolding past_point
    point_read l u n d v f g = rw (← e, and_both _ _ (and_both _ _ (upto_true 1 m l) (upto_true m 3 u)) (is_equal _ _ n), f, g)

  pub unsigned_refused : (upto 1 m and upto m 4) ≡ false → read_refused 30 ≡ unsigned_read s
  unfolding unsigned_read
  unsigned_refused f = rw (← e, f)

  pub unsigned_read_lem : 1 ≤ m → m ≤ 4 → (w : ℕ) → w ≡ decimal_from 0 (take m s) → past_whole w (drop m s) ≡ unsigned_read s
  unfolding unsigned_read
  unsigned_read_lem l u w f = rw (← e, and_both _ _ (upto_true 1 m l) (upto_true m 4 u), f)

-- Laws of digits written and read.
use Rattle.std.specs.Prelude.{◌≡◌, ◌∷◌, ◌/◌, ◌≤◌, ◌&&◌}
use Rattle.std.specs.Prelude.{Option, Some, None}
use lib.Dec.{eqb}
use Rattle.std.specs.Cmp.Lexicographic.{pointwise}
use Rattle.std.specs.Option.{option_map, MatchOption, IsSomeAnd}
use Rattle.laws.specs.Kit.{refl, Bool, sym, ap, ◌∙◌, drop, true, false, List, [], ℕ, zero, suc, arith, length, get_or, take, length-append, ◌and◌, is, upto, and_both, upto_true}
use Rattle.laws.specs.Lists.{every}
use Rattle.laws.specs.Bytes.{part, written}
use Rattle.laws.specs.Bytes.Laws.{part_written_same}
use Rattle.paper.specs.Ids.{digit}
use Rattle.paper.specs.QuantityText.{last_digits, decimal_from}
use Rattle.desk_text.specs.Numbers.{number_read, minute_after, minute_before, minute_read}

-- ---- written

pub last_digits_length : (k x : ℕ) → length (last_digits k x) ≡ k
unfolding last_digits
last_digits_length zero x = refl
last_digits_length (suc k) x = simp (length-append, last_digits_length k (x / 10)) (omega arith)

pub digits_front : (k x : ℕ) (b : List ℕ) {y : List ℕ} → k ≤ length b → y ≡ written 0 (last_digits k x) b → take k y ≡ last_digits k x
unfolding part
digits_front k x b h e = rw e (rw (last_digits_length k x) at (part_written_same 0 (last_digits k x) b (omega (arith, last_digits_length k x))))

-- ---- read

module _ (s : List ℕ) where
  pub read_not : (upto 1 (length s) and upto (length s) 5 and every digit s) ≡ false → None ≡ number_read s
  unfolding number_read
  read_not e = rw e

  pub read_number : 1 ≤ length s → length s ≤ 5 → every digit s ≡ true → (d : ℕ) → d ≡ decimal_from 0 s → Some d ≡ number_read s
  unfolding number_read
  read_number l u e d f = rw (and_both _ _ (and_both _ _ (upto_true 1 (length s) l) (upto_true (length s) 5 u)) e, f)

-- ---- a minus in front

and_true : (b : Bool) → (b && true) ≡ b
and_true true = refl
and_true false = refl

minus_front : (s : List ℕ) → pointwise eqb (take 1 s) (45 ∷ []) ≡ is (get_or s 0 0) 45
unfolding is
minus_front [] = refl
minus_front (x ∷ []) = and_true (eqb x 45)
minus_front (x ∷ y ∷ s) = and_true (eqb x 45)

module _ (s : List ℕ) where
  pub minus_read : pointwise eqb (take 1 s) (45 ∷ []) ≡ true → option_map minute_before (number_read (drop 1 s)) ≡ minute_read s
  unfolding minute_read
  minus_read e = rw (sym (minus_front s) ∙ e)

  pub plain_read : pointwise eqb (take 1 s) (45 ∷ []) ≡ false → option_map minute_after (number_read s) ≡ minute_read s
  unfolding minute_read
  plain_read e = rw (sym (minus_front s) ∙ e)

-- what a number that is read becomes
pub mapped : {A B : Type 0} (f : A → B) (o : Option A) (r : Option B) → MatchOption o (r ≡ None) (λ x. IsSomeAnd r (λ y. y ≡ f x)) → r ≡ option_map f o
mapped f None r k = k
mapped f (Some x) None k = absurd k
mapped f (Some x) (Some y) k = ap Some k

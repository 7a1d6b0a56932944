-- Sums raised position by position, and series by series.
use Rattle.std.specs.Prelude.{◌≡◌, ◌+◌, ◌*◌, ◌≤◌, ◌<◌}
use Rattle.laws.specs.Kit.{refl, sym, ap, ap₂, ◌∙◌, Bool, true, false, cond, List, [], ℕ, arith, length, drop, get_or, set, length-set, add-one, add-zero, get_or-set_same, get_or-set_other, drop-set-lt, drop-drop, get_or-drop, is, is_yes, is_equal, is_other}
use native.Mathlib.Decide.{ℕ_discrete}
use Rattle.laws.specs.Lists.Each.{all_imply, every_all, all_get_or}
use Rattle.paper.specs.Layout.{Block, zeros, quantity}
use Rattle.judge.specs.Sums.{sum_to, SumsTo, Cleared, Added, AtMost, Kept}

-- ---- one position more

pub cleared_none : (a : List ℕ) → length a ≡ 100 → Cleared 0 a
unfolding Cleared
cleared_none a l = (l, λ k h. absurd (omega arith))

pub cleared_more : (n : ℕ) (a : List ℕ) → n < 100 → Cleared n a → Cleared (n + 1) (set a n 0)
unfolding Cleared
cleared_more n a h r =
    (length-set a n 0 ∙ r.0, λ k c. elim (ℕ_discrete k n) [ yes i ↦ rw i (get_or-set_same a n 0 0 (omega (arith, r.0))) | no i ↦ get_or-set_other a n k 0 0 i ∙ r.1 k (omega arith) ])

pub added_none : (on : Bool) (y : Block) (a : List ℕ) → Added on 0 y a a
unfolding Added
added_none on y a = (refl, λ k h. absurd (omega arith))

-- what stands at n is as it was at first
module _ (n : ℕ) (a b : List ℕ) (d : drop n b ≡ drop n a) where
  still : get_or b n 0 ≡ get_or a n 0
  still = rw (add-zero n) at (sym (get_or-drop n b 0 0) ∙ ap (λ r. get_or r 0 0) d ∙ get_or-drop n a 0 0)

  pub rest_more : (v : ℕ) → drop (n + 1) (set b n v) ≡ drop (n + 1) a
  rest_more v = drop-set-lt (n + 1) b n v (omega arith) ∙ sym (drop-drop 1 n b) ∙ ap (drop 1) d ∙ drop-drop 1 n a

  module _ (c : n < 100) (m : AtMost 199 a) (q : ℕ) (h : q < 4294967296) where
    pub no_overflow : get_or b n 0 + q < 18446744073709551616
    unfolding AtMost
    no_overflow = let u : get_or a n 0 ≤ 4294967295 * 199 = m.1 n c in omega (arith, still)

    pub added_more : (y : Block) (v : ℕ) → Added true n y a b → v ≡ get_or b n 0 + q → q ≡ quantity y n → Added true (n + 1) y a (set b n v)
    unfolding Added AtMost
    added_more y v r e f =
        let s : get_or b n 0 ≡ get_or a n 0 = still in
        let l : n < length b = omega (arith, r.0, m.0) in
        (length-set b n v ∙ r.0, λ k w. elim (ℕ_discrete k n) [ yes i ↦ rw (i, get_or-set_same b n v 0 l) (omega arith, omega arith) | no i ↦ rw (get_or-set_other b n k v 0 i) (r.1 k (omega arith)) ])

pub added_still : (n : ℕ) (y : Block) (a : List ℕ) → Added false n y a a
unfolding Added
added_still n y a = (refl, λ k h. (sym (add-zero _), omega arith))

-- ---- one series more

module _ (i : ℕ) (a : List ℕ) where
  pub most_up : (j : ℕ) → i ≤ j → AtMost i a → AtMost j a
  unfolding AtMost
  most_up j h m = (m.0, λ k c. let s : get_or a k 0 ≤ 4294967295 * i = m.1 k c in omega arith)

  pub most_more : (on : Bool) (y : Block) (b : List ℕ) → AtMost i a → Added on 100 y a b → AtMost (i + 1) b
  unfolding AtMost Added
  most_more on y b m r = (
    r.0 ∙ m.0,
    λ k c.
        let s : get_or a k 0 ≤ 4294967295 * i = m.1 k c in
        let t : get_or b k 0 ≤ get_or a k 0 + 4294967295 = (r.1 k c).1 in
        omega arith,
  )

pub most_room : (i : ℕ) (a : List ℕ) → AtMost i a → length a ≡ 100
unfolding AtMost
most_room i a m = m.0

pub most_cleared : (a : List ℕ) → Cleared 100 a → AtMost 0 a
unfolding AtMost Cleared
most_cleared a z = (z.0, λ k c. omega (arith, z.1 k c))

pub most_zeros : (a : List ℕ) → length a ≡ 100 → zeros a ≡ true → AtMost 0 a
unfolding AtMost zeros
most_zeros a l z = (
  l,
  λ k c.
      let s : get_or a k 0 ≡ 0 = all_get_or (λ x. x ≡ 0) a k 0 refl (all_imply (λ x. is x 0 ≡ true) (λ x. x ≡ 0) (λ x t. is_yes x 0 t) a (every_all _ a z)) in
      omega arith,
)

module _ (rights : List ℕ) (series : List Block) (right : ℕ) where
  pub sums_cleared : (a : List ℕ) → Cleared 100 a → SumsTo rights series right 0 a
  unfolding SumsTo sum_to Cleared
  sums_cleared a z = z.1

  module _ (i : ℕ) (a : List ℕ) (s : SumsTo rights series right i a) where
    pub sums_more : (on : Bool) (y : Block) (b : List ℕ) → Added on 100 y a b → on ≡ is (get_or rights i 0) right → y ≡ get_or series i [] → SumsTo rights series right (i + 1) b
    unfolding SumsTo sum_to Added
    sums_more on y b r e q k c = rw (add-one i) ((r.1 k c).0 ∙ ap₂ ◌+◌ (s k c) (ap₂ (λ t z. cond t (quantity z k) 0) e q))

    pub sums_still : is (get_or rights i 0) right ≡ false → SumsTo rights series right (i + 1) a
    unfolding SumsTo sum_to
    sums_still e k c = rw (add-one i, e, add-zero) (s k c)

-- ---- the sums kept

module _ (rights : List ℕ) (series : List Block) (i : ℕ) where
  -- a series on no right leaves them
  pub kept_still : (on : ℕ) (a : List ℕ) → Kept rights series on i a → get_or rights i 0 ≡ 0 → Kept rights series on (i + 1) a
  kept_still on a k e = record {
    sum = λ n. sums_still rights series on i a (k.sum n) (rw e (is_other 0 on (λ q. n (sym q))));
    most = most_up i a (i + 1) (omega arith) k.most;
  }

  -- one on their own right is added
  pub kept_more : (on : ℕ) (y : Block) (a b : List ℕ) → Kept rights series on i a → get_or rights i 0 ≡ on → (get_or rights i 0 ≡ 0 → ⊥) → Added true 100 y a b → y ≡ get_or series i []
      → Kept rights series (get_or rights i 0) (i + 1) b
  kept_more on y a b k e n r q =
      rw e (record { sum = λ z. sums_more rights series on i a (k.sum z) true y b r (sym (is_equal _ _ e)) q; most = most_more i a true y b k.most r })

  -- one on another right begins them anew
  pub kept_anew : (right : ℕ) (a : List ℕ) → SumsTo rights series right (i + 1) a → AtMost (i + 1) a → Kept rights series right (i + 1) a
  kept_anew right a s m = record { sum = λ n. s; most = m }

  -- for that series' right they can be read
  pub kept_for : (on : ℕ) (a : List ℕ) → Kept rights series on (i + 1) a → ((get_or rights i 0 ≡ 0 → ⊥) → on ≡ get_or rights i 0) → (get_or rights i 0 ≡ 0 → ⊥)
      → SumsTo rights series (get_or rights i 0) (i + 1) a
  kept_for on a k f n = let q : on ≡ get_or rights i 0 = f n in rw q at (k.sum (λ z. n (sym q ∙ z)))

-- Sums are raised one after another, and by one block after another: remainders add up.
use Rattle.std.specs.Prelude.{◌≡◌, ◌∷◌, ◌+◌, ◌-◌, ◌<◌, ◌%◌}
use Rattle.laws.specs.Kit.{refl, sym, ap, ◌∙◌, List, [], ℕ, arith, length, take, drop, get_or, add-zero, set, get_or-set_same, get_or-set_other, drop-set-lt, drop-drop, get_or-drop}
use native.Mathlib.Decide.{ℕ_discrete}
use Rattle.laws.specs.Lists.{total}
use Rattle.laws.specs.Lists.Count.{total_append}
use Rattle.laws.specs.Loops.{Step, End, step_take, end_whole}
use Rattle.paper.specs.Layout.{Block}
use Rattle.nets.specs.Sums.{Raised, shares}

-- ---- remainders

added : (a b v g : ℕ) → b ≡ a → v ≡ (b + g) % 4294967296 → v % 4294967296 ≡ (a + g) % 4294967296
added a b v g e f = omega arith

in_turn : (a b c g h : ℕ) → b % 4294967296 ≡ (a + g) % 4294967296 → c % 4294967296 ≡ (b + h) % 4294967296 → c % 4294967296 ≡ (a + (g + h)) % 4294967296
in_turn a b c g h e f = omega arith

-- a difference is a sum with what the number lacks to 2 to the 32
pub lacking : (b v q : ℕ) → q < 4294967296 → b < 4294967296 → v < 4294967296 → (v + q) % 4294967296 ≡ b → v ≡ (b + (4294967296 - q)) % 4294967296
lacking b v q h j m e = omega arith

-- ---- sums raised

pub raised_none : (g : ℕ → ℕ) (a b : List ℕ) → Raised 0 g a b
unfolding Raised
raised_none g a b k h = absurd (omega arith)

pub raised_still : (n : ℕ) (g : ℕ → ℕ) (a : List ℕ) → ((k : ℕ) → g k ≡ 0) → Raised n g a a
unfolding Raised
raised_still n g a f k h = rw (f k, add-zero)

pub raised_agree : (n : ℕ) (f g : ℕ → ℕ) (a b : List ℕ) → ((k : ℕ) → g k ≡ f k) → Raised n f a b → Raised n g a b
unfolding Raised
raised_agree n f g a b e r k h = rw (e k) (r k h)

-- two raisings in turn
pub raised_then : (n : ℕ) (f g h : ℕ → ℕ) (a b c : List ℕ) → ((k : ℕ) → f k ≡ g k + h k) → Raised n g a b → Raised n h b c → Raised n f a c
unfolding Raised
raised_then n f g h a b c e r s k l = rw (e k) (in_turn (get_or a k 0) (get_or b k 0) (get_or c k 0) (g k) (h k) (r k l) (s k l))

-- one sum more: what stands at n is as it was at first, and v is that with g n added
module _ (n v : ℕ) (a b : List ℕ) (d : drop n b ≡ drop n a) where
  pub raised_more : (g : ℕ → ℕ) → Raised n g a b → n < length b → v ≡ (get_or b n 0 + g n) % 4294967296 → Raised (n + 1) g a (set b n v)
  unfolding Raised
  raised_more g r l e k h =
      let here : get_or b n 0 ≡ get_or a n 0 = rw (add-zero n) at (sym (get_or-drop n b 0 0) ∙ ap (λ r. get_or r 0 0) d ∙ get_or-drop n a 0 0) in
      elim (ℕ_discrete k n) [
        | yes i ↦ rw (i, get_or-set_same b n v 0 l) (added (get_or a n 0) (get_or b n 0) v (g n) here e)
        | no i ↦ rw (get_or-set_other b n k v 0 i) (r k (omega arith))
      ]

  pub rest_more : drop (n + 1) (set b n v) ≡ drop (n + 1) a
  rest_more = drop-set-lt (n + 1) b n v (omega arith) ∙ sym (drop-drop 1 n b) ∙ ap (drop 1) d ∙ drop-drop 1 n a

-- ---- one block more

module _ (s : Block → ℕ → ℕ) where
  pub shares_none : (a : List ℕ) → Raised 100 (shares s []) a a
  unfolding shares total
  shares_none a = raised_still 100 (shares s []) a (λ k. refl)

  module _ {l : List Block} {i : ℕ} {x : Block} (a c : List ℕ) (t : Step l i x) (r : Raised 100 (shares s (take i l)) a c) where
    pub shares_more : (d : List ℕ) → Raised 100 (s x) c d → Raised 100 (shares s (take (i + 1) l)) a d
    unfolding shares total
    shares_more d q =
        raised_then 100 _ _ (s x) a c d (λ k. ap (total (λ y. s y k)) (step_take l i x t) ∙ total_append (λ y. s y k) (take i l) (x ∷ []) ∙ ap (λ n. total (λ y. s y k) (take i l) + n) (add-zero (s x k))) r q

    -- of which nothing is added
    pub shares_passed : ((k : ℕ) → s x k ≡ 0) → Raised 100 (shares s (take (i + 1) l)) a c
    shares_passed z = shares_more c (raised_still 100 (s x) c z)

  pub shares_all : {l : List Block} {i : ℕ} (a c : List ℕ) → End l i → Raised 100 (shares s (take i l)) a c → Raised 100 (shares s l) a c
  shares_all {l} {i} a c e r = rw (end_whole l i e) at r

-- What stands before and behind a byte, and the lines of a text.
use Rattle.std.specs.Prelude.{◌≡◌, refl, [], ◌∷◌, ℕ, zero, suc, ◌+◌, ◌-◌, ◌≤◌, ◌<◌, take}
use Rattle.std.proofs.Math.Path.{sym, ap}
use Rattle.std.proofs.Common.{◌∙◌, length-drop, drop-drop}
use native.Mathlib.Omega.{arith}
use Rattle.std.proofs.Math.ListN.{length, drop, drop_of_length-le}
use Rattle.laws.specs.Tests.{is}
use Rattle.laws.specs.Tests.Laws.{split, is_equal, is_other}
use Rattle.laws.specs.Slices.{rest_slice}
use Rattle.paper.specs.Layout.{Bytes}
use Rattle.message_words.specs.Words.{before, behind, lines_up_to, lines}

module _ (x : ℕ) (s : Bytes) (n : ℕ) (e : n ≡ length (before x s)) where
  pub behind_inside : drop (n + 1) s ≡ behind x s
  unfolding behind
  behind_inside = ap (λ k. drop (k + 1) s) e

  -- there is no x
  pub behind_none : length s ≤ n → drop n s ≡ behind x s
  unfolding behind
  behind_none h = let g : length s ≤ length (before x s) + 1 = omega arith in drop_of_length-le s h ∙ sym (drop_of_length-le s g)

-- the line behind the one at `at`: k bytes further on in the rest of the text
pub further_on : (t : Bytes) (at k : ℕ) → at < length t → (let r = take (length t - at) (drop at t) in (drop k r ≡ behind 10 r) × (k ≤ length r) × (length r ≤ k + (length r - 1)))
    → (drop (at + k) t ≡ behind 10 (drop at t)) × (at < at + k) × (at + k ≤ length t)
further_on t at k h f =
    let g = rw (rest_slice at t) at f in
    let n : length (drop at t) ≡ length t - at = length-drop at t in
    (sym (drop-drop k at t) ∙ g.0, omega arith, omega arith)

-- ---- lines

shorter : (s : Bytes) (m : ℕ) → length s ≤ suc m → length (behind 10 s) ≤ m
unfolding behind
shorter s m h = simp length-drop (omega arith)

-- more lines are allowed than there are bytes
enough : (m k : ℕ) (s : Bytes) → length s ≤ m → length s ≤ k → lines_up_to m s ≡ lines_up_to k s
unfolding lines_up_to
enough zero zero s h g = refl
enough zero (suc k) s h g = let z : length s ≡ 0 = omega arith in rw (is_equal (length s) 0 z)
enough (suc m) zero s h g = let z : length s ≡ 0 = omega arith in rw (is_equal (length s) 0 z)
enough (suc m) (suc k) s h g =
    split (is (length s) 0) (λ t. rw t) (λ t. rw t (ap (λ l. before 10 s ∷ l) (enough m k (behind 10 s) (shorter s m h) (shorter s k g))))

pub lines_none : (s : Bytes) → length s ≤ 0 → lines s ≡ []
unfolding lines lines_up_to
lines_none [] h = refl
lines_none (x ∷ s) h = absurd (omega arith)

pub lines_more : (s : Bytes) → 0 < length s → lines s ≡ before 10 s ∷ lines (behind 10 s)
unfolding lines lines_up_to
lines_more [] h = absurd (omega arith)
lines_more (x ∷ s) h =
    rw (is_other (length (x ∷ s)) 0 (λ e. omega arith))
    (ap (λ l. before 10 (x ∷ s) ∷ l) (enough (length s) (length (behind 10 (x ∷ s))) (behind 10 (x ∷ s)) (shorter (x ∷ s) (length s) (omega arith)) (omega arith)))

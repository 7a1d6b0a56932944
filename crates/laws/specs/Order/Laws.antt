-- Laws of answers in order: one before another, and along positions, for a loop that stops at the first refusal and for one that keeps it.
use Rattle.std.specs.Prelude.{◌≡◌, ◌+◌, ◌-◌, ◌≤◌, ◌<◌}
use Rattle.laws.specs.Base.{refl, sym, ap, ap₂, ◌∙◌, ℕ, zero, suc, arith}
use Rattle.std.proofs.Math.Decide.{ℕ_discrete}
use Rattle.laws.specs.Tests.{is}
use Rattle.laws.specs.Tests.Laws.{split, is_yes, is_no, is_equal, is_other}
use Rattle.laws.specs.Order.{first, along}

module _ {A : Type 0} (number : A → ℕ) where
  -- ---- one before another

  pub first_on : (a b : A) → number a ≡ 0 → first number a b ≡ b
  unfolding first
  first_on a b e = rw (is_equal (number a) 0 e)

  pub first_stop : (a b : A) → (number a ≡ 0 → ⊥) → first number a b ≡ a
  unfolding first
  first_stop a b e = rw (is_other (number a) 0 e)

  -- no refusal of the two together, or of each
  pub first_left : (a b : A) → number (first number a b) ≡ 0 → number a ≡ 0
  first_left a b e = split (is (number a) 0) (λ t. is_yes _ _ t) (λ t. sym (ap number (first_stop a b (is_no _ _ t))) ∙ e)

  pub first_right : (a b : A) → number (first number a b) ≡ 0 → number b ≡ 0
  first_right a b e = sym (ap number (first_on a b (first_left a b e))) ∙ e

  -- ---- along positions

  module _ (fine : A) (at : ℕ → A) where
    pub along_more : (f k : ℕ) → along number fine at (suc f) k ≡ first number (at k) (along number fine at f (k + 1))
    unfolding along
    along_more f k = refl

    pub along_none : (k : ℕ) → along number fine at 0 k ≡ fine
    unfolding along
    along_none k = refl

    pub along_all : (f k : ℕ) → number (along number fine at f k) ≡ 0 → (p : ℕ) → k ≤ p → p < k + f → number (at p) ≡ 0
    along_all zero k e p low high = absurd (omega arith)
    along_all (suc f) k e p low high =
        let q : number (first number (at k) (along number fine at f (k + 1))) ≡ 0 = sym (ap number (along_more f k)) ∙ e in
        elim (ℕ_discrete p k) [ yes i ↦ rw i (first_left _ _ q) | no i ↦ along_all f (k + 1) (first_right _ _ q) p (omega arith) (omega arith) ]

    -- a loop over n positions
    module _ (n : ℕ) where
      turn : {w : A} (p : ℕ) → w ≡ along number fine at (n - p) p → p < n → w ≡ first number (at p) (along number fine at (n - (p + 1)) (p + 1))
      turn p e h =
          let z : n - p ≡ suc (n - (p + 1)) = omega arith in
          e ∙ ap (λ f. along number fine at f p) z ∙ along_more (n - (p + 1)) p

      -- that stops at the first refusal
      pub along_start : along number fine at n 0 ≡ along number fine at (n - 0) 0
      along_start = let z : n - 0 ≡ n = omega arith in rw z

      pub along_go : {w : A} (x : A) (p : ℕ) → w ≡ along number fine at (n - p) p → p < n → x ≡ at p → number x ≡ 0 → w ≡ along number fine at (n - (p + 1)) (p + 1)
      along_go x p e h q z = turn p e h ∙ first_on _ _ (rw q at z)

      pub along_hit : {w : A} (x : A) (p : ℕ) → w ≡ along number fine at (n - p) p → p < n → x ≡ at p → (number x ≡ 0 → ⊥) → x ≡ w
      along_hit x p e h q z = q ∙ sym (turn p e h ∙ first_stop _ _ (rw q at z))

      pub along_end : {w : A} (p : ℕ) → w ≡ along number fine at (n - p) p → n ≤ p → fine ≡ w
      along_end p e h = let z : n - p ≡ 0 = omega arith in sym (e ∙ ap (λ f. along number fine at f p) z ∙ along_none p)

  pub along_agree : (fine : A) (at on : ℕ → A) (f k : ℕ) → ((p : ℕ) → k ≤ p → p < k + f → at p ≡ on p) → along number fine at f k ≡ along number fine on f k
  unfolding along
  along_agree fine at on zero k h = refl
  along_agree fine at on (suc f) k h = ap₂ (first number) (h k (omega arith) (omega arith)) (along_agree fine at on f (k + 1) (λ p low high. h p (omega arith) (omega arith)))

-- The block before those that are linked is put first in its bucket, or left out; and a walk goes on, and ends.
use Rattle.std.specs.Prelude.{◌≡◌, true, ℕ, zero, suc, ◌+◌, ◌-◌, ◌≤◌, ◌<◌, set, get_or, length}
use Rattle.std.proofs.Math.Path.{refl, sym}
use Rattle.std.proofs.Common.{◌∙◌, arith, get_or-set_same}
use mathlib.Core.List.{List}
use Rattle.std.proofs.Math.Seq.{get_or-set_other}
use Rattle.laws.specs.Tests.{is}
use Rattle.laws.specs.Tests.Laws.{split, is_yes, is_no}
use Rattle.laws.specs.Lists.Each.{all_imply, every_all, all_get_or}
use Rattle.paper.specs.Layout.{zeros}
use Rattle.index.specs.Ahead.{Behind, following, along, Stands, Ends, AllEnd}

none_at : (h : List ℕ) → zeros h ≡ true → (g : ℕ) → get_or h g 0 ≡ 0
unfolding zeros
none_at h z g = all_get_or (λ x. x ≡ 0) h g 0 refl (all_imply (λ x. is x 0 ≡ true) (λ x. x ≡ 0) (λ x. is_yes x 0) h (every_all _ h z))

pub behind_none : (h n : List ℕ) → zeros h ≡ true → zeros n ≡ true → (i : ℕ) → Behind i h n
behind_none h n z w i = (
  λ g. let q = none_at h z g in omega (arith, q),
  λ g c. absurd (c (none_at h z g)),
  λ j. let q = none_at n w j in omega (arith, q),
  λ j c. absurd (c (none_at n w j)),
)

module _ (k : ℕ) (h n : List ℕ) {m : ℕ} (e : 0 < m) (z : k ≡ m - 1) (a : Behind m h n) where
  pub behind_left : Behind k h n
  behind_left = (a.0, λ g c. let y = a.1 g c in omega (arith, y), a.2, a.3)

  pub behind_put : (b : ℕ) → b < length h → k < length n → k < 1000 → Behind k (set h b (k + 1)) (set n k (get_or h b 0))
  behind_put b u v w = (
    λ g.
        split (is b g)
        (λ t. rw (← is_yes b g t) (let q = get_or-set_same h b (k + 1) 0 u in omega (arith, q)))
        (λ t. let q = get_or-set_other h b g (k + 1) 0 (λ r. is_no b g t (sym r)) in let y = a.0 g in omega (arith, q, y)),
    λ g c.
        split (is b g)
        (λ t. rw (← is_yes b g t) (let q = get_or-set_same h b (k + 1) 0 u in omega (arith, q)))
        (λ t. let q = get_or-set_other h b g (k + 1) 0 (λ r. is_no b g t (sym r)) in let y = a.1 g (λ r. c (q ∙ r)) in omega (arith, q, y)),
    λ j.
        split (is k j)
        (λ t. rw (← is_yes k j t) (let q = get_or-set_same n k (get_or h b 0) 0 v in let y = a.0 b in omega (arith, q, y)))
        (λ t. let q = get_or-set_other n k j (get_or h b 0) 0 (λ r. is_no k j t (sym r)) in let y = a.2 j in omega (arith, q, y)),
    λ j c.
        split (is k j)
        (λ t.
        let r : k ≡ j = is_yes k j t in
        let q : get_or (set n k (get_or h b 0)) j 0 ≡ get_or h b 0 = rw (← r) (get_or-set_same n k (get_or h b 0) 0 v) in
        let y = a.1 b (λ w. c (q ∙ w)) in
        omega (arith, q, y, r))
        (λ t.
        let q = get_or-set_other n k j (get_or h b 0) 0 (λ r. is_no k j t (sym r)) in
        let y = a.3 j (λ r. c (q ∙ r)) in
        omega (arith, q, y)),
  )

-- ---- a walk along the links

module _ (n : List ℕ) where
  -- it ends where each of its places is of a kind at which it stands, and the place behind is of that kind too
  pub ends_by : (kind : ℕ → Type 0) → ((at : ℕ) → kind at → Stands n at × kind (following n at)) → (at : ℕ) → kind at → Ends n at
  unfolding along
  ends_by kind f at a zero = (f at a).0
  ends_by kind f at a (suc k) = ends_by kind f (following n at) (f at a).1 k

  pub ends_most : (at : ℕ) → Ends n at → at ≤ 1000
  unfolding along
  ends_most at e = (e 0).0

  ends_on : (at : ℕ) → Ends n at → Ends n (following n at)
  unfolding along
  ends_on at e k = e (suc k)

  further_on : (at : ℕ) → Ends n at → (following n at ≡ 0 → ⊥) → at < following n at
  unfolding along
  further_on at e = (e 0).1

  next_is : (at m : ℕ) → (at ≡ 0 → ⊥) → m ≡ get_or n (at - 1) 0 → m ≡ following n at
  unfolding following
  next_is zero m c q = absurd (c refl)
  next_is (suc j) m c q = let z : suc j - 1 ≡ j = omega arith in rw z at q

  -- a step further it ends too
  module _ (at : ℕ) (e : Ends n at) (c : at ≡ 0 → ⊥) {m : ℕ} (q : m ≡ get_or n (at - 1) 0) where
    pub ends_next : Ends n m
    ends_next = let z = next_is at m c q in rw z (ends_on at e)

    pub next_further : (m ≡ 0 → ⊥) → at < m
    next_further = let z = next_is at m c q in rw z (further_on at e)

-- where all that is linked stands behind, every walk ends
module _ (i : ℕ) (h n : List ℕ) (a : Behind i h n) where
  steps_behind : (at : ℕ) → at ≤ 1000 → Stands n at × (following n at ≤ 1000)
  unfolding following
  steps_behind zero w = ((w, λ c. absurd (c refl)), w)
  steps_behind (suc j) w = ((w, λ c. let y = a.3 j c in omega (arith, y)), a.2 j)

  pub behind_ends : (at : ℕ) → at ≤ 1000 → Ends n at
  behind_ends = ends_by n (λ at. at ≤ 1000) steps_behind

  pub behind_all_end : AllEnd h n
  behind_all_end g few = behind_ends (get_or h g 0) (a.0 g)

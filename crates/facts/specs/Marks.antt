-- What a mark says: count and first are 0 exactly where all n quantities agree; else the count is from 1 to n, and first is the lowest position at which they
-- differ. Alone, agree and differ are told apart by count and partner.
use Rattle.std.specs.Prelude.{◌≡◌, ◌∷◌, ◌+◌, ◌-◌, ◌≤◌, ◌<◌}
use Rattle.laws.specs.Base.{refl, sym, ◌∙◌, Bool, cond, none, some, [], ℕ, zero, suc, add-one, arith}
use Rattle.std.proofs.Math.Decide.{ℕ_discrete}
use Rattle.laws.specs.Tests.{is}
use Rattle.laws.specs.Tests.Laws.{split, is_yes, is_no, is_equal, is_same, is_other}
use Rattle.laws.specs.Bytes.{little}
use Rattle.paper.specs.Layout.{Bytes, entry}
use Rattle.paper.specs.Marks.{difference_from, first_difference, differences, mark_of, alone, agree, differ, state_of_mark, state_code, mark_code}

-- the first n quantities agree: k is position k + 1
abbrev pub Agree : (n : ℕ) (ours : Bytes) (theirs : Bytes) → Type 0
Agree n ours theirs = (k : ℕ) → k < n → entry ours k ≡ entry theirs k

-- position k + 1, of n, is the lowest at which they differ
pub record Differ (n : ℕ) (ours : Bytes) (theirs : Bytes) (k : ℕ) : Type 0 where
  pub within : k < n
  pub here : entry ours k ≡ entry theirs k → ⊥
  pub lower : Agree k ours theirs

module _ (ours theirs : Bytes) where
  abbrev equal : ℕ → Bool
  equal k = is (entry ours k) (entry theirs k)

  -- ---- from position k + 1 on

  none_from : (left k : ℕ) → difference_from left k ours theirs ≡ 0 → (j : ℕ) → k ≤ j → j < k + left → entry ours j ≡ entry theirs j
  unfolding difference_from
  none_from zero k e j h f = absurd (omega arith)
  none_from (suc left) k e j h f = split (equal k)
      (λ t. elim (ℕ_discrete j k) [ yes i ↦ rw i (is_yes _ _ t) | no i ↦ none_from left (k + 1) (rw t at e) j (omega arith) (omega arith) ])
      (λ t. let z : k + 1 ≡ 0 = rw t at e in absurd (omega arith))

  first_from : (left k p : ℕ) → difference_from left k ours theirs ≡ p + 1
      → (k ≤ p) × (p < k + left) × (entry ours p ≡ entry theirs p → ⊥) × ((j : ℕ) → k ≤ j → j < p → entry ours j ≡ entry theirs j)
  unfolding difference_from
  first_from zero k p e = absurd (omega arith)
  first_from (suc left) k p e = split (equal k)
      (λ t. let r = first_from left (k + 1) p (rw t at e) in (
        omega (arith, r.0),
        omega (arith, r.1),
        r.2,
        λ j h f. elim (ℕ_discrete j k) [ yes i ↦ rw i (is_yes _ _ t) | no i ↦ r.3 j (omega arith) f ],
      ))
      (λ t.
      let z : k + 1 ≡ p + 1 = rw t at e in
      let i : p ≡ k = omega arith in
      (omega arith, omega arith, rw i (is_no _ _ t), λ j h f. absurd (omega arith)))

  from_none : (left k : ℕ) → ((j : ℕ) → k ≤ j → j < k + left → entry ours j ≡ entry theirs j) → difference_from left k ours theirs ≡ 0
  unfolding difference_from
  from_none zero k f = refl
  from_none (suc left) k f = rw (is_equal _ _ (f k (omega arith) (omega arith))) (from_none left (k + 1) (λ j h l. f j (omega arith) (omega arith)))

  from_first : (left k p : ℕ) → k ≤ p → p < k + left → (entry ours p ≡ entry theirs p → ⊥) → ((j : ℕ) → k ≤ j → j < p → entry ours j ≡ entry theirs j)
      → difference_from left k ours theirs ≡ p + 1
  unfolding difference_from
  from_first zero k p h l d f = absurd (omega arith)
  from_first (suc left) k p h l d f = elim (ℕ_discrete k p) [
    | yes i ↦ rw (i, is_other _ _ d)
    | no i ↦ rw (is_equal _ _ (f k (omega arith) (omega arith))) (from_first left (k + 1) p (omega arith) (omega arith) d (λ j u w. f j (omega arith) w))
  ]

  -- ---- the count

  pub differences_most : (n : ℕ) → differences n ours theirs ≤ n
  unfolding differences
  differences_most zero = omega arith
  differences_most (suc n) = split (equal n) (λ t. rw t (omega (arith, differences_most n))) (λ t. rw t (omega (arith, differences_most n)))

  pub no_differences_agree : (n : ℕ) → differences n ours theirs ≡ 0 → Agree n ours theirs
  unfolding differences
  no_differences_agree zero e k h = absurd (omega arith)
  no_differences_agree (suc n) e k h = split (equal n)
      (λ t.
      let z : differences n ours theirs + 0 ≡ 0 = rw t at e in
      elim (ℕ_discrete k n) [ yes i ↦ rw i (is_yes _ _ t) | no i ↦ no_differences_agree n (omega arith) k (omega arith) ])
      (λ t. let z : differences n ours theirs + 1 ≡ 0 = rw t at e in absurd (omega arith))

  pub agree_no_differences : (n : ℕ) → Agree n ours theirs → differences n ours theirs ≡ 0
  unfolding differences
  agree_no_differences zero f = refl
  agree_no_differences (suc n) f = rw (is_equal _ _ (f n (omega arith))) (omega (arith, agree_no_differences n (λ k h. f k (omega arith))))

  -- ---- the first difference of n

  module _ (n : ℕ) where
    pub no_difference_agree : first_difference n ours theirs ≡ 0 → Agree n ours theirs
    unfolding first_difference
    no_difference_agree e k h = none_from n 0 e k (omega arith) (omega arith)

    pub agree_no_difference : Agree n ours theirs → first_difference n ours theirs ≡ 0
    unfolding first_difference
    agree_no_difference f = from_none n 0 (λ j h l. f j (omega arith))

    pub difference_differ : (k : ℕ) → first_difference n ours theirs ≡ k + 1 → Differ n ours theirs k
    unfolding first_difference
    difference_differ k e = let r = first_from n 0 k e in record { within = omega (arith, r.1); here = r.2; lower = λ j h. r.3 j (omega arith) h }

    pub first_most : first_difference n ours theirs ≤ n
    first_most = elim (ℕ_discrete (first_difference n ours theirs) 0) [
      | yes z ↦ omega arith
      | no z ↦ omega (arith, (difference_differ (first_difference n ours theirs - 1) (omega arith)).within)
    ]

    pub differ_difference : (k : ℕ) → Differ n ours theirs k → first_difference n ours theirs ≡ k + 1
    unfolding first_difference
    differ_difference k d = from_first n 0 k (omega arith) (omega (arith, d.within)) d.here (λ j h l. d.lower j l)

    -- ---- first and count are 0 together

    pub no_difference_no_differences : first_difference n ours theirs ≡ 0 → differences n ours theirs ≡ 0
    no_difference_no_differences e = agree_no_differences n (no_difference_agree e)

    pub no_differences_no_difference : differences n ours theirs ≡ 0 → first_difference n ours theirs ≡ 0
    no_differences_no_difference e = agree_no_difference (no_differences_agree n e)

    pub differ_some : (k : ℕ) → Differ n ours theirs k → 1 ≤ differences n ours theirs
    differ_some k d = elim (ℕ_discrete (differences n ours theirs) 0) [ yes e ↦ absurd (d.here (no_differences_agree n e k d.within)) | no e ↦ omega arith ]

    -- ---- the mark beside a counterpart

    pub mark_agree : (slot : ℕ) → Agree n ours theirs → mark_of n ours (some theirs) slot ≡ 0 ∷ 0 ∷ little 2 slot
    unfolding mark_of
    mark_agree slot f = rw (agree_no_difference f, agree_no_differences n f)

    pub mark_differ : (slot k : ℕ) → Differ n ours theirs k → mark_of n ours (some theirs) slot ≡ differences n ours theirs ∷ (k + 1) ∷ little 2 slot
    unfolding mark_of
    mark_differ slot k d = rw (differ_difference k d)

  -- ---- one position more, k + 1

  module _ (k : ℕ) where
    differ_further : (j : ℕ) → first_difference k ours theirs ≡ j + 1 → first_difference (k + 1) ours theirs ≡ j + 1
    differ_further j e =
        let d = difference_differ k j e in
        differ_difference (k + 1) j (record { within = omega (arith, d.within); here = d.here; lower = d.lower })

    pub first_where_equal : entry ours k ≡ entry theirs k → first_difference (k + 1) ours theirs ≡ first_difference k ours theirs
    first_where_equal e = elim (ℕ_discrete (first_difference k ours theirs) 0) [
      | yes z ↦ agree_no_difference (k + 1) (λ j h. elim (ℕ_discrete j k) [ yes i ↦ rw i e | no i ↦ no_difference_agree k z j (omega arith) ]) ∙ sym z
      | no z ↦
          let q : first_difference k ours theirs ≡ first_difference k ours theirs - 1 + 1 = omega arith in
          differ_further (first_difference k ours theirs - 1) q ∙ sym q
    ]

    pub first_where_other : (entry ours k ≡ entry theirs k → ⊥) → first_difference (k + 1) ours theirs ≡ cond (is (first_difference k ours theirs) 0) (k + 1) (first_difference k ours theirs)
    first_where_other d = elim (ℕ_discrete (first_difference k ours theirs) 0) [
      | yes z ↦ rw (is_equal _ _ z) (differ_difference (k + 1) k (record { within = omega arith; here = d; lower = no_difference_agree k z }))
      | no z ↦
          let q : first_difference k ours theirs ≡ first_difference k ours theirs - 1 + 1 = omega arith in
          rw (is_other _ _ z) (differ_further (first_difference k ours theirs - 1) q ∙ sym q)
    ]

    pub differences_where_equal : entry ours k ≡ entry theirs k → differences (k + 1) ours theirs ≡ differences k ours theirs
    unfolding differences
    differences_where_equal e = rw (add-one k, is_equal _ _ e) (omega arith)

    pub differences_where_other : (entry ours k ≡ entry theirs k → ⊥) → differences (k + 1) ours theirs ≡ differences k ours theirs + 1
    unfolding differences
    differences_where_other d = rw (add-one k, is_other _ _ d)

-- ---- and where there is none

pub mark_alone : (n : ℕ) (ours : Bytes) (slot : ℕ) → mark_of n ours none slot ≡ 0 ∷ 0 ∷ 0 ∷ 0 ∷ []
unfolding mark_of
mark_alone n ours slot = refl

-- ---- the state and the code, by count and partner

pub state_alone : state_of_mark 0 0 ≡ alone
unfolding state_of_mark
state_alone = rw (is_same 0)

pub state_agree : (partner : ℕ) → (partner ≡ 0 → ⊥) → state_of_mark 0 partner ≡ agree
unfolding state_of_mark
state_agree partner p = rw (is_same 0, is_other partner 0 p)

pub state_differ : (count partner : ℕ) → 1 ≤ count → state_of_mark count partner ≡ differ
unfolding state_of_mark
state_differ count partner h = rw (is_other count 0 (λ e. omega arith))

pub code_alone : mark_code 0 0 ≡ 28
unfolding mark_code state_code is
code_alone = rw state_alone

pub code_agree : (partner : ℕ) → (partner ≡ 0 → ⊥) → mark_code 0 partner ≡ 0
unfolding mark_code state_code is
code_agree partner p = rw (state_agree partner p)

pub code_differ : (count partner : ℕ) → 1 ≤ count → mark_code count partner ≡ 9
unfolding mark_code state_code is
code_differ count partner h = rw (state_differ count partner h)

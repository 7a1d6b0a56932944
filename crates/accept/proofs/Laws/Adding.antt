-- The new blocks: the sender's, where it has no slot yet, then the series that have no place among the sender's stored ones.
use Rattle.std.specs.Prelude.{◌≡◌, ◌∷◌, ◌++◌, ◌+◌, ◌≤◌, ◌<◌}
use Rattle.laws.specs.Kit.{refl, sym, ap, ap₂, ◌∙◌, Bool, List, [], map, ℕ, zero, suc, add-one, arith, length, take, get_or, length-append, take-suc, take_all, neg, is, split, is_yes, is_no, is_equal, is_other}
use Rattle.laws.specs.Lists.{place, keep}
use Rattle.laws.specs.Lists.Each.{map_append}
use Rattle.laws.specs.Lists.Search.{has_keep_and, place_is_0}
use Rattle.laws.specs.Lists.Keep.{keep_append}
use Rattle.paper.specs.Layout.{Block, key, with_senders_slot}
use Rattle.paper.specs.Book.{key_is, is_series_of}
use Rattle.paper.specs.Rules.{is_new}
use Rattle.index.specs.Linked.{alike, own_with, Found}
use Rattle.index.specs.declared.By.TheVariants.{Key}
use Rattle.accept.specs.Steps.{sender_if_new, added_at, added_to}

-- ---- the sender's block

module _ (known : ℕ) (kept : Block) where
  pub sender_new : known ≡ 0 → sender_if_new known kept ≡ kept ∷ []
  unfolding sender_if_new
  sender_new z = rw (is_equal known 0 z)

  pub sender_known : (known ≡ 0 → ⊥) → sender_if_new known kept ≡ []
  unfolding sender_if_new
  sender_known z = rw (is_other known 0 z)

-- ---- one series

module _ (slot stored : ℕ) (y : Block) where
  pub added_yes : stored ≡ 0 → added_at slot stored y ≡ with_senders_slot slot y ∷ []
  unfolding added_at
  added_yes z = rw (is_equal stored 0 z)

  pub added_no : (stored ≡ 0 → ⊥) → added_at slot stored y ≡ []
  unfolding added_at
  added_no z = rw (is_other stored 0 z)

new_by_place : (known : ℕ) (us : List Block) (y : Block) → is (place (own_with known Key y) us) 0 ≡ is_new (keep (is_series_of known) us) y
unfolding is_new own_with alike
new_by_place known us y = place_is_0 (own_with known Key y) us ∙ ap neg (sym (has_keep_and (key_is (key y)) (is_series_of known) us))

-- ---- series in turn

module _ (slot : ℕ) (places : List ℕ) (series : List Block) where
  pub added_more : (k : ℕ) → added_to slot places series (k + 1) ≡ added_to slot places series k ++ added_at slot (get_or places k 0) (get_or series k [])
  unfolding added_to
  added_more k = rw (add-one k)

  added_grows : (m k : ℕ) → k ≤ m → length (added_to slot places series k) ≤ length (added_to slot places series m)
  added_grows zero k h = let z : k ≡ 0 = omega arith in rw z (omega arith)
  added_grows (suc m) k h =
      split (is k (suc m)) (λ t. rw (is_yes k (suc m) t) (omega arith))
      (λ t.
      let d = is_no k (suc m) t in
      let i : k ≤ m = split (is k (suc m)) (λ u. absurd (d (is_yes k (suc m) u))) (λ u. omega (arith, d)) in
      let e : suc m ≡ m + 1 = omega arith in
      rw e (omega (arith, added_grows m k i, ap length (added_more m), length-append (added_to slot places series m) (added_at slot (get_or places m 0) (get_or series m [])))))

  pub added_room : (k m : ℕ) → k < m → length (added_to slot places series k) + length (added_at slot (get_or places k 0) (get_or series k [])) ≤ length (added_to slot places series m)
  added_room k m h =
      omega (arith, added_grows m (k + 1) (omega arith), ap length (added_more k), length-append (added_to slot places series k) (added_at slot (get_or places k 0) (get_or series k [])))

  -- with the places that the judgement has found, those added are the new ones
  module _ (known : ℕ) (us : List Block) (f : Found known Key us series places) where
    abbrev new : Block → Bool
    new = is_new (keep (is_series_of known) us)

    one_new : (k : ℕ) → k < length series → added_at slot (get_or places k 0) (get_or series k []) ≡ map (with_senders_slot slot) (keep new (get_or series k [] ∷ []))
    unfolding added_at keep
    one_new k h =
        rw (f.each k h, new_by_place known us (get_or series k []))
        (split (new (get_or series k [])) (λ t. rw t) (λ t. rw t))

    first_new : (k : ℕ) → k ≤ length series → added_to slot places series k ≡ map (with_senders_slot slot) (keep new (take k series))
    unfolding added_to keep
    first_new zero h = refl
    first_new (suc k) h =
        ap₂ ◌++◌ (first_new k (omega arith)) (one_new k (omega arith))
        ∙ sym (ap (λ r. map (with_senders_slot slot) (keep new r)) (take-suc series k [] (omega arith))
        ∙ ap (map (with_senders_slot slot)) (keep_append new (take k series) (get_or series k [] ∷ []))
        ∙ map_append (with_senders_slot slot) (keep new (take k series)) (keep new (get_or series k [] ∷ [])))

    pub all_new : added_to slot places series (length series) ≡ map (with_senders_slot slot) (keep new series)
    all_new = first_new (length series) (omega arith) ∙ ap (λ r. map (with_senders_slot slot) (keep new r)) (take_all (length series) series (omega arith))

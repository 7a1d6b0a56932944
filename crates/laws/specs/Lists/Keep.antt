-- The elements that pass a test (keep), and those before the first that passes (until).
use Rattle.std.specs.Prelude.{◌≡◌, ◌∷◌, ◌++◌, ◌+◌, ◌-◌, ◌≤◌, ◌<◌}
use Rattle.laws.specs.Base.{refl, sym, ap, ◌∙◌, Bool, true, false, List, [], map, ℕ, zero, suc, arith, length, take, drop, get_or, length-drop, take-append-drop, take_all}
use Rattle.laws.specs.Tests.Laws.{split, cond_apply, or_left, or_right, or_no}
use Rattle.laws.specs.Lists.{has, count, keep, until, All}
use Rattle.laws.specs.Lists.Each.{all_each}
use Rattle.laws.specs.Lists.Count.{count_append, count_keep, count_length}

module _ {A : Type 0} where
  -- ---- keep

  pub keep_append : (p : A → Bool) (l r : List A) → keep p (l ++ r) ≡ keep p l ++ keep p r
  unfolding keep
  keep_append p [] r = refl
  keep_append p (x ∷ xs) r = split (p x) (λ t. rw t (ap (λ z. x ∷ z) (keep_append p xs r))) (λ t. rw t (keep_append p xs r))

  pub keep_all : (p : A → Bool) (l : List A) → All (λ x. p x ≡ true) l → keep p l ≡ l
  unfolding keep
  keep_all p [] h = refl
  keep_all p (x ∷ xs) h = rw h.0 (ap (λ z. x ∷ z) (keep_all p xs h.1))

  pub keep_none : (p : A → Bool) (l : List A) → has p l ≡ false → keep p l ≡ []
  unfolding keep has
  keep_none p [] e = refl
  keep_none p (x ∷ xs) e = rw (or_left _ _ e) (keep_none p xs (or_right _ _ e))

  pub keep_agree : (p q : A → Bool) (l : List A) → All (λ x. p x ≡ q x) l → keep p l ≡ keep q l
  unfolding keep
  keep_agree p q [] h = refl
  keep_agree p q (y ∷ ys) h = rw (h.0, keep_agree p q ys h.1)

  pub keep_length : (p : A → Bool) (l : List A) → length (keep p l) ≤ length l
  keep_length p l = omega (arith, count_keep p l, count_length p l)

  -- ---- until

  pub until_length : (p : A → Bool) (l : List A) → length (until p l) ≤ length l
  unfolding until
  until_length p [] = omega arith
  until_length p (x ∷ xs) = split (p x) (λ e. rw e (omega arith)) (λ e. rw e (omega (arith, until_length p xs)))

  pub until_count : (p : A → Bool) (l : List A) → length (until p l) + count p l ≤ length l
  unfolding until count
  until_count p [] = omega arith
  until_count p (x ∷ xs) = split (p x) (λ t. rw t (omega (arith, count_length p xs))) (λ t. rw t (omega (arith, until_count p xs)))

  pub until_has : (p : A → Bool) (l : List A) → has p (until p l) ≡ false
  unfolding until has
  until_has p [] = refl
  until_has p (x ∷ xs) = split (p x) (λ t. rw t) (λ t. rw t (or_no _ _ t (until_has p xs)))

  pub until_append : (p : A → Bool) (l r : List A) → All (λ x. p x ≡ false) l → All (λ x. p x ≡ true) r → until p (l ++ r) ≡ l
  unfolding until
  until_append p [] [] h k = refl
  until_append p [] (y ∷ ys) h k = rw k.0
  until_append p (x ∷ xs) r h k = rw h.0 (ap (λ z. x ∷ z) (until_append p xs r h.1 k))

  pub until_take : (p : A → Bool) (l : List A) (u : ℕ) → u ≡ length (until p l) → take u l ≡ until p l
  unfolding until
  until_take p l u e = rw e (by l)
    where
      by : (r : List A) → take (length (until p r)) r ≡ until p r
      by [] = refl
      by (x ∷ xs) = split (p x) (λ t. rw t) (λ t. rw t (ap (λ z. x ∷ z) (by xs)))

  -- how many pass, where all pass behind the first that does
  pub count_until : (p : A → Bool) (l : List A) → All (λ x. p x ≡ true) (drop (length (until p l)) l) → count p l ≡ length l - length (until p l)
  count_until p l h =
      let n : ℕ = length (until p l) in
      let a : count p (take n l) ≡ 0 = ap (count p) (until_take p l n refl) ∙ count_keep p (until p l) ∙ ap length (keep_none p (until p l) (until_has p l)) in
      let b : count p (drop n l) ≡ length l - n = count_keep p (drop n l) ∙ ap length (keep_all p (drop n l) h) ∙ length-drop n l in
      ap (count p) (sym (take-append-drop n l)) ∙ count_append p (take n l) (drop n l) ∙ omega arith

  pub until_all : (p : A → Bool) (l : List A) → has p l ≡ false → until p l ≡ l
  unfolding until has
  until_all p [] e = refl
  until_all p (x ∷ xs) e = rw (or_left _ _ e) (ap (λ z. x ∷ z) (until_all p xs (or_right _ _ e)))

  -- a search that passed i elements by and stops at i
  pub until_hit : (p : A → Bool) (l : List A) (i : ℕ) (d : A) → i < length l → has p (take i l) ≡ false → p (get_or l i d) ≡ true → i ≡ length (until p l)
  unfolding until has
  until_hit p [] i d h e f = absurd (omega arith)
  until_hit p (x ∷ xs) zero d h e f = rw f
  until_hit p (x ∷ xs) (suc i) d h e f = rw (or_left _ _ e) (ap suc (until_hit p xs i d (omega arith) (or_right _ _ e) f))

  -- a search that passed all by
  pub until_end : (p : A → Bool) (l : List A) (i : ℕ) → i ≡ length l → has p (take i l) ≡ false → i ≡ length (until p l)
  until_end p l i z e = z ∙ sym (ap length (until_all p l (rw (take_all i l (omega arith)) at e)))

module _ {A B : Type 0} where
  -- ---- of elements that are changed

  pub keep_map : (f : A → B) (p : B → Bool) (l : List A) → keep p (map f l) ≡ map f (keep (λ x. p (f x)) l)
  unfolding keep
  keep_map f p [] = refl
  keep_map f p (x ∷ xs) = rw (keep_map f p xs) (sym (cond_apply (map f) (p (f x)) (x ∷ keep (λ y. p (f y)) xs) (keep (λ y. p (f y)) xs)))

  pub keep_map_each : (f : A → B) (p : B → Bool) (q : A → Bool) → ((x : A) → p (f x) ≡ q x) → (l : List A) → keep p (map f l) ≡ map f (keep q l)
  keep_map_each f p q h l = keep_map f p l ∙ ap (map f) (keep_agree (λ x. p (f x)) q l (all_each (λ x. p (f x) ≡ q x) h l))

-- How many elements pass a test (count), and the sum of what each gives (total).
use Rattle.std.specs.Prelude.{◌≡◌, ◌∷◌, ◌++◌, ◌+◌, ◌-◌, ◌*◌, ◌≤◌, ◌<◌}
use Rattle.laws.specs.Base.{refl, sym, ap, ◌∙◌, Bool, true, cond, List, [], map, ℕ, suc, mul-suc, zero-add, add-one, arith, length, take, get_or, take-suc}
use Rattle.laws.specs.Tests.{neg}
use Rattle.laws.specs.Tests.Laws.{split, and_left, and_right, neg_yes, clash}
use Rattle.laws.specs.Lists.{find, count, keep, total, of_found, All, apart}
use Rattle.laws.specs.Lists.Each.{all_each, every_all}

module _ {A : Type 0} where
  -- ---- count

  pub count_append : (p : A → Bool) (l r : List A) → count p (l ++ r) ≡ count p l + count p r
  unfolding count
  count_append p [] r = omega arith
  count_append p (x ∷ xs) r = split (p x) (λ t. rw t (omega (arith, count_append p xs r))) (λ t. rw t (count_append p xs r))

  pub count_keep : (p : A → Bool) (l : List A) → count p l ≡ length (keep p l)
  unfolding count keep
  count_keep p [] = refl
  count_keep p (x ∷ xs) = split (p x) (λ t. rw t (ap suc (count_keep p xs))) (λ t. rw t (count_keep p xs))

  pub count_length : (p : A → Bool) (l : List A) → count p l ≤ length l
  unfolding count
  count_length p [] = omega arith
  count_length p (x ∷ xs) = split (p x) (λ t. rw t (omega (arith, count_length p xs))) (λ t. rw t (omega (arith, count_length p xs)))

  pub count_agree : (p q : A → Bool) (l : List A) → All (λ x. p x ≡ q x) l → count p l ≡ count q l
  unfolding count
  count_agree p q [] h = refl
  count_agree p q (y ∷ ys) h = rw (h.0, count_agree p q ys h.1)

  -- ---- total

  pub total_append : (g : A → ℕ) (l r : List A) → total g (l ++ r) ≡ total g l + total g r
  unfolding total
  total_append g [] r = omega arith
  total_append g (x ∷ xs) r = omega (arith, total_append g xs r)

  pub total_plus : (g h : A → ℕ) (l : List A) → total (λ x. g x + h x) l ≡ total g l + total h l
  unfolding total
  total_plus g h [] = refl
  total_plus g h (x ∷ xs) = omega (arith, total_plus g h xs)

  pub total_more : (g : A → ℕ) (l : List A) (i : ℕ) (d : A) → i < length l → total g (take (i + 1) l) ≡ total g (take i l) + g (get_or l i d)
  unfolding total
  total_more g l i d h = rw (add-one i, take-suc l i d h) (omega (arith, total_append g (take i l) (get_or l i d ∷ [])))

  -- where two sums are equal, what the first terms have above the second is together what the second have above the first
  pub total_differences : (g h : A → ℕ) (l : List A) → total g l ≡ total h l → total (λ x. g x - h x) l ≡ total (λ x. h x - g x) l
  unfolding total
  total_differences g h l e =
      let p : total (λ x. g x + (h x - g x)) l ≡ total (λ x. h x + (g x - h x)) l = both l in
      omega (arith, e, p, total_plus g (λ x. h x - g x) l, total_plus h (λ x. g x - h x) l)
    where
      both : (l : List A) → total (λ x. g x + (h x - g x)) l ≡ total (λ x. h x + (g x - h x)) l
      both [] = refl
      both (x ∷ xs) = omega (arith, both xs)

  pub total_agree : (g h : A → ℕ) (l : List A) → All (λ x. g x ≡ h x) l → total g l ≡ total h l
  unfolding total
  total_agree g h [] e = refl
  total_agree g h (x ∷ xs) e = rw (e.0, total_agree g h xs e.1)

  pub total_each : (g h : A → ℕ) → ((x : A) → g x ≡ h x) → (l : List A) → total g l ≡ total h l
  total_each g h f l = total_agree g h l (all_each (λ x. g x ≡ h x) f l)

  pub total_keep : (g : A → ℕ) (p : A → Bool) (l : List A) → total g (keep p l) ≡ total (λ x. cond (p x) (g x) 0) l
  unfolding total keep
  total_keep g p [] = refl
  total_keep g p (x ∷ xs) = split (p x) (λ t. rw t (omega (arith, total_keep g p xs))) (λ t. rw t (omega (arith, total_keep g p xs)))

  -- those that pass and those that do not
  pub total_sieve : (g : A → ℕ) (p : A → Bool) (l : List A) → total g (keep p l) + total g (keep (λ x. neg (p x)) l) ≡ total g l
  unfolding total keep neg
  total_sieve g p [] = refl
  total_sieve g p (x ∷ xs) = split (p x) (λ t. rw t (omega (arith, total_sieve g p xs))) (λ t. rw t (omega (arith, total_sieve g p xs)))

  pub total_none : (g : A → ℕ) (l : List A) → All (λ x. g x ≡ 0) l → total g l ≡ 0
  unfolding total
  total_none g [] h = refl
  total_none g (x ∷ xs) h = omega (arith, h.0, total_none g xs h.1)

  -- where at most one element passes, the sum over those that pass is what the one found gives
  pub total_one : (c : A → A → Bool) (Q : A → Type 0) (p : A → Bool) (g : A → ℕ) → ((x y : A) → Q x → Q y → p x ≡ true → p y ≡ true → c x y ≡ true)
      → (l : List A) → All Q l → apart c l ≡ true → total (λ x. cond (p x) (g x) 0) l ≡ of_found g (find p l)
  unfolding total find apart of_found
  total_one c Q p g f [] q a = refl
  total_one c Q p g f (x ∷ xs) q a = split (p x)
      (λ t. rw t (omega (arith, total_none (λ y. cond (p y) (g y) 0) xs (one t xs q.1 (every_all _ xs (and_left _ _ a))))))
      (λ t. rw (t, zero-add (total (λ y. cond (p y) (g y) 0) xs)) (total_one c Q p g f xs q.1 (and_right _ _ a)))
    where
      one : p x ≡ true → (l : List A) → All Q l → All (λ y. neg (c x y) ≡ true) l → All (λ y. cond (p y) (g y) 0 ≡ 0) l
      one t [] r s = tt
      one t (y ∷ ys) r s = (split (p y) (λ u. clash (f x y q.0 r.0 t u) (neg_yes _ s.0)) (λ u. rw u), one t ys r.1 s.1)

  pub total_bound : (g : A → ℕ) (m : ℕ) (l : List A) → All (λ x. g x ≤ m) l → total g l ≤ m * length l
  unfolding total
  total_bound g m [] h = omega arith
  total_bound g m (x ∷ xs) h = rw (mul-suc m (length xs)) (omega (arith, h.0, total_bound g m xs h.1))

  pub length_total : (l : List A) → length l ≡ total (λ x. 1) l
  unfolding total
  length_total [] = refl
  length_total (x ∷ xs) = omega (arith, length_total xs)

module _ {A B : Type 0} where
  -- ---- of elements that are changed

  pub count_map : (f : A → B) (p : B → Bool) (l : List A) → count p (map f l) ≡ count (λ x. p (f x)) l
  unfolding count
  count_map f p [] = refl
  count_map f p (x ∷ xs) = rw (count_map f p xs)

  pub total_map : (f : A → B) (g : B → ℕ) (l : List A) → total g (map f l) ≡ total (λ x. g (f x)) l
  unfolding total
  total_map f g [] = refl
  total_map f g (x ∷ xs) = rw (total_map f g xs)

-- a sum of sums, taken in either order
pub total_swap : {A B : Type 0} (f : A → B → ℕ) (l : List A) (r : List B) → total (λ x. total (f x) r) l ≡ total (λ y. total (λ x. f x y) l) r
unfolding total
total_swap f [] r = sym (total_none (λ y. 0) r (all_each (λ y. 0 ≡ 0) (λ y. refl) r))
total_swap f (x ∷ xs) r = ap (λ n. total (f x) r + n) (total_swap f xs r) ∙ sym (total_plus (f x) (λ y. total (λ z. f z y) xs) r)

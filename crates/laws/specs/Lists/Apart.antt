-- No element clashes with a later one.
use Rattle.std.specs.Prelude.{◌≡◌, ◌∷◌, ◌++◌, ◌<◌}
use Rattle.laws.specs.Base.{refl, sym, Bool, true, false, List, [], map, ℕ, zero, suc, arith, length, get_or}
use Rattle.laws.specs.Tests.{◌and◌, ◌or◌, neg, is}
use Rattle.laws.specs.Tests.Laws.{split, clash, and_left, and_right, and_both, or_yes_left, or_yes_right, neg_yes, neg_true, neg_false, is_equal}
use Rattle.laws.specs.Lists.{further, place, apart, keep, All, has, every}
use Rattle.laws.specs.Lists.Each.{all_imply, all_each, all_append, all_get_or_inside, every_all, all_every, every_keep, all_map}
use Rattle.laws.specs.Lists.Search.{all_has_no, further_is, one_is_further, further_is_one}

module _ {A : Type 0} where
  pub apart_append : (c : A → A → Bool) (l r : List A) → apart c l ≡ true → apart c r ≡ true → All (λ x. All (λ y. c x y ≡ false) r) l → apart c (l ++ r) ≡ true
  unfolding apart
  apart_append c [] r a b h = b
  apart_append c (x ∷ xs) r a b h =
      and_both _ _
      (all_every (λ y. neg (c x y)) (xs ++ r) (all_append (λ y. neg (c x y) ≡ true) xs r (every_all _ xs (and_left _ _ a)) (all_imply (λ y. c x y ≡ false) (λ y. neg (c x y) ≡ true) (λ y e. neg_true _ e) r h.0)))
      (apart_append c xs r (and_right _ _ a) b h.1)

  pub apart_keep : (c : A → A → Bool) (p : A → Bool) (l : List A) → apart c l ≡ true → apart c (keep p l) ≡ true
  unfolding apart keep
  apart_keep c p [] a = refl
  apart_keep c p (x ∷ xs) a =
      split (p x) (λ t. rw t (and_both _ _ (every_keep (λ y. neg (c x y)) p xs (and_left _ _ a)) (apart_keep c p xs (and_right _ _ a)))) (λ t. rw t (apart_keep c p xs (and_right _ _ a)))

  -- none clash, where a clash wants a test that all fail
  pub apart_none : (c : A → A → Bool) (p : A → Bool) → ((x y : A) → c x y ≡ true → p x ≡ true) → (l : List A) → All (λ x. p x ≡ false) l → apart c l ≡ true
  unfolding apart
  apart_none c p g [] h = refl
  apart_none c p g (x ∷ xs) h =
      and_both _ _ (all_every (λ y. neg (c x y)) xs (all_each (λ y. neg (c x y) ≡ true) (λ y. neg_true _ (split (c x y) (λ t. clash (g x y t) h.0) (λ t. t))) xs)) (apart_none c p g xs h.1)

  -- the element at k is the first that passes a test, where all that do not clash with it fail the test
  pub apart_place : (c : A → A → Bool) (p : A → Bool) (l : List A) (k : ℕ) (d : A) → k < length l → p (get_or l k d) ≡ true
      → ((x : A) → c x (get_or l k d) ≡ false → p x ≡ false) → apart c l ≡ true → place p l ≡ suc k
  unfolding apart place further
  apart_place c p [] k d h e f a = absurd (omega arith)
  apart_place c p (x ∷ xs) zero d h e f a = rw e
  apart_place c p (x ∷ xs) (suc k) d h e f a =
      let n : p x ≡ false = f x (neg_yes _ (all_get_or_inside (λ y. neg (c x y) ≡ true) xs k d (omega arith) (every_all _ xs (and_left _ _ a)))) in
      rw (n, apart_place c p xs k d (omega arith) e f (and_right _ _ a))

  -- a clash by one test is a clash by another, for elements with Q
  pub apart_imply : (c e : A → A → Bool) (Q : A → Type 0) → ((x y : A) → Q x → Q y → e x y ≡ false → c x y ≡ false) → (l : List A) → All Q l → apart e l ≡ true
      → apart c l ≡ true
  unfolding apart
  apart_imply c e Q g [] q a = refl
  apart_imply c e Q g (x ∷ xs) q a =
      and_both _ _ (all_every (λ y. neg (c x y)) xs (one xs q.1 (every_all _ xs (and_left _ _ a)))) (apart_imply c e Q g xs q.1 (and_right _ _ a))
    where
      one : (l : List A) → All Q l → All (λ y. neg (e x y) ≡ true) l → All (λ y. neg (c x y) ≡ true) l
      one [] h k = tt
      one (y ∷ ys) h k = (neg_true _ (g x y q.0 h.0 (neg_yes _ k.0)), one ys h.1 k.1)

module _ {A B : Type 0} where
  -- a clash of the new was a clash of the old, for elements with Q
  pub apart_map : (c : B → B → Bool) (e : A → A → Bool) (f : A → B) (Q : A → Type 0) → ((x y : A) → Q x → Q y → e x y ≡ false → c (f x) (f y) ≡ false)
      → (l : List A) → All Q l → apart e l ≡ true → apart c (map f l) ≡ true
  unfolding apart
  apart_map c e f Q g [] q a = refl
  apart_map c e f Q g (x ∷ xs) q a =
      and_both _ _ (all_every (λ y. neg (c (f x) y)) (map f xs) (all_map (λ y. neg (c (f x) y) ≡ true) f xs (one xs q.1 (every_all _ xs (and_left _ _ a)))))
      (apart_map c e f Q g xs q.1 (and_right _ _ a))
    where
      one : (l : List A) → All Q l → All (λ y. neg (e x y) ≡ true) l → All (λ y. neg (c (f x) (f y)) ≡ true) l
      one [] h k = tt
      one (y ∷ ys) h k = (neg_true _ (g x y q.0 h.0 (neg_yes _ k.0)), one ys h.1 k.1)

-- ---- of those that pass o, no two of which pass s, and no two t: one passes s or t and not both, if the first places of s and t differ

module _ {X : Type 0} (o s t : X → Bool) (clashes : X → X → Bool)
    (by : (x z : X) → o x ≡ true → o z ≡ true → ((s x and s z) or (t x and t z)) ≡ true → clashes x z ≡ true) where
  abbrev crossed : X → Bool
  crossed x = o x and ((s x and neg (t x)) or (t x and neg (s x)))

  alone : (x z : X) → o x ≡ true → s x ≡ true → t x ≡ true → neg (clashes x z) ≡ true → crossed z ≡ false
  unfolding ◌and◌ ◌or◌
  alone x z e f g n =
      split (o z)
      (λ u. split (s z)
      (λ v. clash (by x z e u (or_yes_left (s x and s z) (t x and t z) (and_both _ _ f v))) (neg_yes _ n))
      (λ v. split (t z) (λ w. clash (by x z e u (or_yes_right (s x and s z) (t x and t z) (and_both _ _ g w))) (neg_yes _ n)) (λ w. rw (u, v, w))))
      (λ u. rw u)

  pub apart_places_differ : (l : List X) → apart clashes l ≡ true → has crossed l ≡ neg (is (place (λ x. o x and s x) l) (place (λ x. o x and t x) l))
  unfolding has place apart ◌and◌ ◌or◌ neg
  apart_places_differ [] a = sym (neg_false _ (is_equal 0 0 refl))
  apart_places_differ (x ∷ xs) a =
      let rest : has crossed xs ≡ neg (is (place (λ x. o x and s x) xs) (place (λ x. o x and t x) xs)) = apart_places_differ xs (and_right (every (λ y. neg (clashes x y)) xs) (apart clashes xs) a) in
      split (o x)
      (λ u. split (s x)
      (λ v. split (t x)
      (λ w. rw (u, v, w, all_has_no crossed xs (all_imply _ _ (λ z n. alone x z u v w n) xs (every_all (λ y. neg (clashes x y)) xs (and_left (every (λ y. neg (clashes x y)) xs) (apart clashes xs) a)))) (sym (neg_false _ (is_equal 1 1 refl))))
      (λ w. rw (u, v, w, one_is_further (place (λ x. o x and t x) xs))))
      (λ v. split (t x)
      (λ w. rw (u, v, w, further_is_one (place (λ x. o x and s x) xs)))
      (λ w. rw (u, v, w, further_is (place (λ x. o x and s x) xs) (place (λ x. o x and t x) xs)) rest)))
      (λ u. rw (u, further_is (place (λ x. o x and s x) xs) (place (λ x. o x and t x) xs)) rest)

-- The first element that passes a test: whether there is one (has), which it is (find), at what place it stands (place).
use Rattle.std.specs.Prelude.{◌≡◌, ◌∷◌, ◌++◌, ◌+◌, ◌-◌, ◌≤◌, ◌<◌}
use Rattle.laws.specs.Base.{refl, sym, ap, ◌∙◌, Bool, true, false, cond, false≢true, true≢false, none, some, option_map, List, [], map, ℕ, zero, suc, add-one, arith, length, take, get_or, length-take-le, take-suc}
use Rattle.laws.specs.Tests.{◌and◌, ◌or◌, neg, is, upto, below}
use Rattle.laws.specs.Tests.Laws.{split, clash, cond_apply, and_both, and_no_left, and_no_right, or_left, or_right, or_no, or_false, or_exchange, neg_true, neg_false, neg_and_neg, is_yes, is_no, is_equal, is_other, is_same, upto_yes, upto_no, upto_true, upto_false}
use Rattle.laws.specs.Lists.{further, find, place, nth, has, every, keep, All}
use Rattle.laws.specs.Lists.Each.{all_imply, all_each, all_find, every_all, nth_get_or}

module _ {A : Type 0} where
  -- ---- has

  pub has_yes : (p : A → Bool) (l : List A) → has p l ≡ true → (x : A) × (find p l ≡ some x)
  unfolding has find ◌or◌
  has_yes p [] e = absurd (false≢true e)
  has_yes p (y ∷ ys) e = split (p y) (λ t. (y, rw t)) (λ t. let r : (x : A) × (find p ys ≡ some x) = has_yes p ys (rw t at e) in (r.0, rw t r.1))

  pub has_no_find : (p : A → Bool) (l : List A) → has p l ≡ false → find p l ≡ none
  unfolding has find
  has_no_find p [] e = refl
  has_no_find p (y ∷ ys) e = rw (or_left _ _ e) (has_no_find p ys (or_right _ _ e))

  pub has_no_place : (p : A → Bool) (l : List A) → has p l ≡ false → place p l ≡ zero
  unfolding has place further
  has_no_place p [] e = refl
  has_no_place p (y ∷ ys) e = rw (or_left _ _ e, has_no_place p ys (or_right _ _ e))

  pub has_no_all : (p : A → Bool) (l : List A) → has p l ≡ false → All (λ x. p x ≡ false) l
  unfolding has
  has_no_all p [] e = tt
  has_no_all p (y ∷ ys) e = (or_left _ _ e, has_no_all p ys (or_right _ _ e))

  pub all_has_no : (p : A → Bool) (l : List A) → All (λ x. p x ≡ false) l → has p l ≡ false
  unfolding has
  all_has_no p [] h = refl
  all_has_no p (y ∷ ys) h = or_no _ _ h.0 (all_has_no p ys h.1)

  -- where all pass, none fails
  pub every_has_no : (p : A → Bool) (l : List A) → every p l ≡ true → has (λ x. neg (p x)) l ≡ false
  every_has_no p l e = all_has_no _ l (all_imply (λ x. p x ≡ true) (λ x. neg (p x) ≡ false) (λ x. neg_false (p x)) l (every_all p l e))

  pub has_append : (p : A → Bool) (l r : List A) → has p (l ++ r) ≡ (has p l or has p r)
  unfolding has ◌or◌
  has_append p [] r = refl
  has_append p (y ∷ ys) r = split (p y) (λ t. rw t) (λ t. rw t (has_append p ys r))

  pub has_append_left : (p : A → Bool) (l r : List A) → has p (l ++ r) ≡ false → has p l ≡ false
  has_append_left p l r e = or_left _ _ (sym (has_append p l r) ∙ e)

  pub has_append_right : (p : A → Bool) (l r : List A) → has p (l ++ r) ≡ false → has p r ≡ false
  has_append_right p l r e = or_right _ _ (sym (has_append p l r) ∙ e)

  -- tests that agree on the list
  pub has_agree : (p q : A → Bool) (l : List A) → All (λ x. p x ≡ q x) l → has p l ≡ has q l
  unfolding has
  has_agree p q [] h = refl
  has_agree p q (y ∷ ys) h = rw (h.0, has_agree p q ys h.1)

  pub has_or : (p q : A → Bool) (l : List A) → has (λ x. p x or q x) l ≡ (has p l or has q l)
  unfolding has ◌or◌
  has_or p q [] = refl
  has_or p q (x ∷ xs) = ap (λ z. (p x or q x) or z) (has_or p q xs) ∙ or_exchange (p x) (q x) (has p xs) (has q xs)

  -- of the first n elements, by a test of their numbers
  pub has_take_below : (p : A → Bool) (q : ℕ → Bool) (d : A) (l : List A) → ((k : ℕ) → k < length l → q k ≡ p (get_or l k d)) → (n : ℕ) → n ≤ length l → has p (take n l) ≡ neg (below (λ k. neg (q k)) n)
  unfolding below has
  has_take_below p q d l a zero h = sym (neg_false true refl)
  has_take_below p q d l a (suc n) h =
      ap (has p) (take-suc l n d (omega arith)) ∙ has_append p (take n l) (get_or l n d ∷ [])
      ∙ rw (or_false (p (get_or l n d)), has_take_below p q d l a n (omega arith), ← a n (omega arith)) (sym (neg_and_neg (below (λ k. neg (q k)) n) (q n)))

  -- a search of what a sieve lets through
  pub has_sieve : (p f q : A → Bool) → ((x : A) → f x ≡ true → q x ≡ p x) → ((x : A) → f x ≡ false → q x ≡ false) → (l : List A) → has p (keep f l) ≡ has q l
  unfolding has keep ◌or◌
  has_sieve p f q g h [] = refl
  has_sieve p f q g h (y ∷ ys) =
      split (f y) (λ t. rw (t, g y t) (ap (λ z. p y or z) (has_sieve p f q g h ys)))
      (λ t. rw (t, h y t) (has_sieve p f q g h ys))

  pub has_keep_and : (p f : A → Bool) (l : List A) → has p (keep f l) ≡ has (λ x. f x and p x) l
  unfolding ◌and◌
  has_keep_and p f l = has_sieve p f (λ x. f x and p x) (λ x t. rw t) (λ x t. rw t) l

  pub has_keep_or : (f p q : A → Bool) (l : List A) → has (λ x. f x and (p x or q x)) l ≡ (has p (keep f l) or has q (keep f l))
  has_keep_or f p q l = sym (has_keep_and (λ x. p x or q x) f l) ∙ has_or p q (keep f l)

  -- ---- find

  pub find_passes : (p : A → Bool) (l : List A) (x : A) → find p l ≡ some x → p x ≡ true
  unfolding find
  find_passes p [] x e = let z : true ≡ false = cc in absurd (true≢false z)
  find_passes p (y ∷ ys) x e = split (p y) (λ t. let s : some y ≡ some x = rw t at e in let i : y ≡ x = cc in rw i at t) (λ t. find_passes p ys x (rw t at e))

  pub find_has : (p : A → Bool) (l : List A) (x : A) → find p l ≡ some x → has p l ≡ true
  find_has p l x e = split (has p l) (λ t. t) (λ t. let z : some x ≡ none = sym e ∙ has_no_find p l t in let w : true ≡ false = cc in absurd (true≢false w))

  -- what is found is there for any test that it passes
  pub find_has_other : (p q : A → Bool) (l : List A) (x : A) → find p l ≡ some x → q x ≡ true → has q l ≡ true
  find_has_other p q l x e f = split (has q l) (λ t. t) (λ t. clash f (all_find (λ y. q y ≡ false) p l x (has_no_all q l t) e))

  pub find_append_first : (p : A → Bool) (l r : List A) (x : A) → find p l ≡ some x → find p (l ++ r) ≡ some x
  unfolding find
  find_append_first p [] r x e = let z : true ≡ false = cc in absurd (true≢false z)
  find_append_first p (y ∷ ys) r x e = split (p y) (λ t. rw t (rw t at e)) (λ t. rw t (find_append_first p ys r x (rw t at e)))

  pub find_append_second : (p : A → Bool) (l r : List A) → has p l ≡ false → find p (l ++ r) ≡ find p r
  unfolding find has
  find_append_second p [] r e = refl
  find_append_second p (y ∷ ys) r e = rw (or_left _ _ e) (find_append_second p ys r (or_right _ _ e))

  pub find_append_only : (p : A → Bool) (l r : List A) → has p r ≡ false → find p (l ++ r) ≡ find p l
  unfolding find
  find_append_only p [] r e = has_no_find p r e
  find_append_only p (y ∷ ys) r e = ap (cond (p y) (some y)) (find_append_only p ys r e)

  pub find_agree : (p q : A → Bool) (l : List A) → All (λ x. p x ≡ q x) l → find p l ≡ find q l
  unfolding find
  find_agree p q [] h = refl
  find_agree p q (y ∷ ys) h = rw (h.0, find_agree p q ys h.1)

  pub find_sieve : (p f q : A → Bool) → ((x : A) → f x ≡ true → q x ≡ p x) → ((x : A) → f x ≡ false → q x ≡ false) → (l : List A) → find p (keep f l) ≡ find q l
  unfolding find keep
  find_sieve p f q g h [] = refl
  find_sieve p f q g h (y ∷ ys) =
      split (f y) (λ t. rw (t, g y t) (ap (cond (p y) (some y)) (find_sieve p f q g h ys)))
      (λ t. rw (t, h y t) (find_sieve p f q g h ys))

  pub find_keep : (p f : A → Bool) → ((x : A) → p x ≡ true → f x ≡ true) → (l : List A) → find p (keep f l) ≡ find p l
  find_keep p f h l = find_sieve p f p (λ x t. refl) (λ x t. split (p x) (λ u. clash (h x u) t) (λ u. u)) l

  pub find_keep_and : (p f : A → Bool) (l : List A) → find p (keep f l) ≡ find (λ x. f x and p x) l
  unfolding ◌and◌
  find_keep_and p f l = find_sieve p f (λ x. f x and p x) (λ x t. rw t) (λ x t. rw t) l

-- ---- place

further_positive : (n : ℕ) → zero < n → zero < further n
unfolding further
further_positive zero h = h
further_positive (suc n) h = omega arith

further_length : (n m : ℕ) → n ≤ m → further n ≤ suc m
unfolding further
further_length zero m h = omega arith
further_length (suc n) m h = omega arith

further_suc : (n : ℕ) → further (suc n) ≡ suc (suc n)
unfolding further
further_suc n = refl

pub further_is : (n m : ℕ) → is (further n) (further m) ≡ is n m
unfolding further
further_is zero zero = refl
further_is zero (suc m) = is_other _ _ (λ z. omega arith) ∙ sym (is_other _ _ (λ z. omega arith))
further_is (suc n) zero = is_other _ _ (λ z. omega arith) ∙ sym (is_other _ _ (λ z. omega arith))
further_is (suc n) (suc m) = split (is (suc n) (suc m)) (λ u. is_equal _ _ (ap suc (is_yes _ _ u)) ∙ sym u) (λ u. is_other _ _ (λ z. is_no _ _ u (omega arith)) ∙ sym u)

pub one_is_further : (n : ℕ) → is 1 (further n) ≡ false
unfolding further
one_is_further zero = is_other _ _ (λ z. omega arith)
one_is_further (suc n) = is_other _ _ (λ z. omega arith)

pub further_is_one : (n : ℕ) → is (further n) 1 ≡ false
unfolding further
further_is_one zero = is_other _ _ (λ z. omega arith)
further_is_one (suc n) = is_other _ _ (λ z. omega arith)

module _ {A : Type 0} where
  nth_further : (y : A) (ys : List A) (k : ℕ) → nth (y ∷ ys) (further k) ≡ nth ys k
  unfolding nth further
  nth_further y [] zero = refl
  nth_further y (z ∷ ys) zero = refl
  nth_further y ys (suc k) = refl

  pub place_positive : (p : A → Bool) (l : List A) → has p l ≡ true → zero < place p l
  unfolding has place ◌or◌
  place_positive p [] e = absurd (false≢true e)
  place_positive p (y ∷ ys) e = split (p y) (λ t. rw t (omega arith)) (λ t. rw t (further_positive _ (place_positive p ys (rw t at e))))

  pub place_length : (p : A → Bool) (l : List A) → place p l ≤ length l
  unfolding place
  place_length p [] = omega arith
  place_length p (y ∷ ys) = split (p y) (λ t. rw t (omega arith)) (λ t. rw t (further_length _ _ (place_length p ys)))

  -- a place of 0 says that there is none
  pub place_is_0 : (p : A → Bool) (l : List A) → is (place p l) 0 ≡ neg (has p l)
  unfolding neg
  place_is_0 p l = split (has p l) (λ t. rw t (is_other _ _ (λ z. omega (arith, place_positive p l t)))) (λ t. rw t (is_equal _ _ (has_no_place p l t)))

  pub place_is_not_0 : (p : A → Bool) (l : List A) → neg (is (place p l) 0) ≡ has p l
  unfolding neg
  place_is_not_0 p l = split (has p l) (λ t. rw (place_is_0 p l, t)) (λ t. rw (place_is_0 p l, t))

  -- the element at the place of the first that passes is that first
  pub nth_place : (p : A → Bool) (l : List A) → nth l (place p l) ≡ find p l
  unfolding nth place find
  nth_place p [] = refl
  nth_place p (y ∷ ys) = split (p y) (λ t. rw t) (λ t. rw t (nth_further y ys (place p ys) ∙ nth_place p ys))

  pub place_append_first : (p : A → Bool) (l r : List A) → has p l ≡ true → place p (l ++ r) ≡ place p l
  unfolding has place ◌or◌
  place_append_first p [] r e = absurd (false≢true e)
  place_append_first p (y ∷ ys) r e = split (p y) (λ t. rw t) (λ t. rw (t, place_append_first p ys r (rw t at e)))

  pub place_append_second : (p : A → Bool) (l : List A) (x : A) (r : List A) → has p l ≡ false → p x ≡ true → place p (l ++ x ∷ r) ≡ suc (length l)
  unfolding has place
  place_append_second p [] x r e f = rw f
  place_append_second p (y ∷ ys) x r e f = rw (or_left _ _ e) (ap further (place_append_second p ys x r (or_right _ _ e) f) ∙ further_suc (length ys))

  pub place_append_only : (p : A → Bool) (l r : List A) → has p r ≡ false → place p (l ++ r) ≡ place p l
  unfolding place
  place_append_only p [] r e = has_no_place p r e
  place_append_only p (y ∷ ys) r e = ap (λ n. cond (p y) (suc zero) (further n)) (place_append_only p ys r e)

  pub place_agree : (p q : A → Bool) (l : List A) → All (λ x. p x ≡ q x) l → place p l ≡ place q l
  unfolding place
  place_agree p q [] h = refl
  place_agree p q (y ∷ ys) h = rw (h.0, place_agree p q ys h.1)

  -- the first that passes stands before one that passes at i, or is that one
  pub has_take_place : (q : A → Bool) (l : List A) (i : ℕ) (d : A) → i < length l → q (get_or l i d) ≡ true → has q (take i l) ≡ neg (is (place q l) (suc i))
  unfolding has place ◌or◌
  has_take_place q [] i d h e = absurd (omega arith)
  has_take_place q (x ∷ xs) zero d h e = rw e (sym (neg_false _ (is_equal 1 1 refl)))
  has_take_place q (x ∷ xs) (suc i) d h e = split (q x)
      (λ u. rw u (sym (neg_true _ (is_other 1 (suc (suc i)) (λ z. omega arith)))))
      (λ u. rw (u, ← further_suc i, further_is (place q xs) (suc i)) (has_take_place q xs i d (omega arith) e))

  -- among the first i elements one passes exactly where the first that passes is one of them
  pub has_take_upto : (p : A → Bool) (l : List A) (i : ℕ) → has p (take i l) ≡ (neg (is (place p l) 0) and upto (place p l) i)
  unfolding has place ◌or◌ further
  has_take_upto p [] zero = sym (and_no_left _ _ (neg_false _ (is_equal 0 0 refl)))
  has_take_upto p [] (suc i) = sym (and_no_left _ _ (neg_false _ (is_equal 0 0 refl)))
  has_take_upto p (x ∷ xs) zero = sym (split (is (place p (x ∷ xs)) 0) (λ t. and_no_left _ _ (neg_false _ t)) (λ t. and_no_right _ _ (upto_false _ 0 (omega (arith, is_no _ _ t)))))
  has_take_upto p (x ∷ xs) (suc i) = split (p x)
      (λ t. rw t (sym (and_both _ _ (neg_true _ (is_other 1 0 (λ z. omega arith))) (upto_true 1 (suc i) (omega arith)))))
      (λ t. rw t (has_take_upto p xs i ∙ one (place p xs)))
    where
      one : (m : ℕ) → (neg (is m 0) and upto m i) ≡ (neg (is (further m) 0) and upto (further m) (suc i))
      one zero = and_no_left _ _ (neg_false _ (is_equal 0 0 refl)) ∙ sym (and_no_left _ _ (neg_false _ (is_equal 0 0 refl)))
      one (suc m) = ap (λ t. t and upto (suc m) i) (neg_true _ (is_other (suc m) 0 (λ z. omega arith)) ∙ sym (neg_true _ (is_other (suc (suc m)) 0 (λ z. omega arith))))
          ∙ ap (λ t. neg (is (suc (suc m)) 0) and t) (split (upto (suc m) i) (λ u. u ∙ sym (upto_true (suc (suc m)) (suc i) (omega (arith, upto_yes _ _ u)))) (λ u. u ∙ sym (upto_false (suc (suc m)) (suc i) (omega (arith, upto_no _ _ u)))))

  -- what a place t that was found says
  module _ (p : A → Bool) (l : List A) (t : ℕ) (e : t ≡ place p l) where
    pub place_within : t ≤ length l
    place_within = omega (arith, place_length p l)

    pub place_none : t ≡ 0 → has p l ≡ false
    place_none z = split (has p l) (λ u. absurd (omega (arith, place_positive p l u))) (λ u. u)

    pub place_find : (d : A) → (t ≡ 0 → ⊥) → find p l ≡ some (get_or l (t - 1) d)
    place_find d z =
        let q : t ≡ suc (t - 1) = omega (arith, nonzero t z) in
        sym (nth_place p l) ∙ ap (nth l) (sym e ∙ q) ∙ nth_get_or l (t - 1) d (omega (arith, place_within, nonzero t z))
      where
        nonzero : (n : ℕ) → (n ≡ 0 → ⊥) → 0 < n
        nonzero zero f = absurd (f refl)
        nonzero (suc n) f = omega arith

module _ {A B : Type 0} where
  -- ---- of elements that are changed

  pub has_map : (f : A → B) (p : B → Bool) (l : List A) → has p (map f l) ≡ has (λ x. p (f x)) l
  unfolding has
  has_map f p [] = refl
  has_map f p (x ∷ xs) = rw (has_map f p xs)

  pub has_map_each : (f : A → B) (p : B → Bool) (q : A → Bool) → ((x : A) → p (f x) ≡ q x) → (l : List A) → has p (map f l) ≡ has q l
  has_map_each f p q h l = has_map f p l ∙ has_agree (λ x. p (f x)) q l (all_each (λ x. p (f x) ≡ q x) h l)

  pub find_map_all : (f : A → B) (p : B → Bool) (q : A → Bool) (l : List A) → All (λ x. p (f x) ≡ q x) l → find p (map f l) ≡ option_map f (find q l)
  unfolding find
  find_map_all f p q [] h = refl
  find_map_all f p q (x ∷ xs) h = rw (h.0, find_map_all f p q xs h.1) (sym (cond_apply (option_map f) (q x) (some x) (find q xs)))

  pub find_map : (f : A → B) (p : B → Bool) (q : A → Bool) → ((x : A) → p (f x) ≡ q x) → (l : List A) → find p (map f l) ≡ option_map f (find q l)
  find_map f p q h l = find_map_all f p q l (all_each (λ x. p (f x) ≡ q x) h l)

  pub place_map : (f : A → B) (p : B → Bool) (l : List A) → place p (map f l) ≡ place (λ x. p (f x)) l
  unfolding place
  place_map f p [] = refl
  place_map f p (x ∷ xs) = rw (place_map f p xs)

  -- a test that a change does not alter
  pub place_map_each : (f : A → B) (p : B → Bool) (q : A → Bool) → ((x : A) → p (f x) ≡ q x) → (l : List A) → place p (map f l) ≡ place q l
  place_map_each f p q h l = place_map f p l ∙ place_agree (λ x. p (f x)) q l (all_each (λ x. p (f x) ≡ q x) h l)

  -- what is found is seen alike: both find or neither does
  pub has_viewed : (view : A → B) (p q : A → Bool) (l r : List A) → option_map view (find p l) ≡ option_map view (find q r) → has p l ≡ has q r
  has_viewed view p q l r e = split (has p l)
      (λ t. t ∙ sym (split (has q r) (λ u. u) (λ u. absurd (one_alone q r p l (sym e) u t))))
      (λ t. t ∙ sym (split (has q r) (λ u. absurd (one_alone p l q r e t u)) (λ u. u)))
    where
      one_alone : (p : A → Bool) (l : List A) (q : A → Bool) (r : List A) → option_map view (find p l) ≡ option_map view (find q r) → has p l ≡ false → has q r ≡ true → ⊥
      one_alone p l q r e t u =
          let y = has_yes q r u in
          let z : none ≡ some (view y.0) = ap (option_map view) (sym (has_no_find p l t)) ∙ e ∙ ap (option_map view) y.1 in
          let w : true ≡ false = cc in true≢false w

-- ---- a search of one element more

module _ {A : Type 0} (p : A → Bool) (l : List A) (i : ℕ) (d : A) (h : i < length l) where
  pub place_more : place p (take (i + 1) l) ≡ cond (is (place p (take i l)) 0 and p (get_or l i d)) (i + 1) (place p (take i l))
  unfolding ◌and◌ has
  place_more =
      ap (λ k. place p (take k l)) (add-one i) ∙ ap (place p) (take-suc l i d h)
      ∙ split (has p (take i l))
      (λ t. place_append_first p (take i l) _ t ∙ sym (rw (is_other (place p (take i l)) 0 (λ z. omega (arith, place_positive p (take i l) t)))))
      (λ t. split (p (get_or l i d))
      (λ u. place_append_second p (take i l) (get_or l i d) [] t u ∙ rw (u, has_no_place p (take i l) t, is_same 0, length-take-le i l (omega arith)) (omega arith))
      (λ u. place_append_only p (take i l) (get_or l i d ∷ []) (or_no _ _ u refl) ∙ rw (u, has_no_place p (take i l) t, is_same 0)))

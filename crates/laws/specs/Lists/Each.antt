-- Each element: by its number, by a property of all (All), by a test that all pass (every), and changed (map).
use Rattle.std.specs.Prelude.{◌≡◌, ◌∷◌, ◌++◌, ◌+◌, ◌≤◌, ◌<◌}
use Rattle.laws.specs.Base.{refl, sym, ap, ap₂, ◌∙◌, Bool, true, false, true≢false, some, option_map, List, [], map, ℕ, zero, suc, suc-add, zero-add, add-one, arith, length, take, drop, get_or, take-nil, take-suc}
use Rattle.laws.specs.Tests.{◌and◌}
use Rattle.laws.specs.Tests.Laws.{split, clash, and_left, and_right, and_both, and_true}
use Rattle.laws.specs.Lists.{find, nth, every, keep, until, All}

module _ {A : Type 0} where
  -- ---- a property of each

  pub all_imply : (P Q : A → Type 0) → ((x : A) → P x → Q x) → (l : List A) → All P l → All Q l
  all_imply P Q f [] h = tt
  all_imply P Q f (x ∷ xs) h = (f x h.0, all_imply P Q f xs h.1)

  pub all_both : (P Q : A → Type 0) (l : List A) → All P l → All Q l → All (λ x. P x × Q x) l
  all_both P Q [] h k = tt
  all_both P Q (x ∷ xs) h k = ((h.0, k.0), all_both P Q xs h.1 k.1)

  pub all_each : (P : A → Type 0) → ((x : A) → P x) → (l : List A) → All P l
  all_each P f [] = tt
  all_each P f (x ∷ xs) = (f x, all_each P f xs)

  pub all_append : (P : A → Type 0) (l r : List A) → All P l → All P r → All P (l ++ r)
  all_append P [] r h k = k
  all_append P (x ∷ xs) r h k = (h.0, all_append P xs r h.1 k)

  pub all_append_left : (P : A → Type 0) (l r : List A) → All P (l ++ r) → All P l
  all_append_left P [] r h = tt
  all_append_left P (x ∷ xs) r h = (h.0, all_append_left P xs r h.1)

  pub all_append_right : (P : A → Type 0) (l r : List A) → All P (l ++ r) → All P r
  all_append_right P [] r h = h
  all_append_right P (x ∷ xs) r h = all_append_right P xs r h.1

  pub all_take : (P : A → Type 0) (k : ℕ) (l : List A) → All P l → All P (take k l)
  all_take P zero l h = tt
  all_take P (suc k) [] h = tt
  all_take P (suc k) (x ∷ xs) h = (h.0, all_take P k xs h.1)

  pub all_drop : (P : A → Type 0) (k : ℕ) (l : List A) → All P l → All P (drop k l)
  all_drop P zero l h = h
  all_drop P (suc k) [] h = tt
  all_drop P (suc k) (x ∷ xs) h = all_drop P k xs h.1

  pub all_keep : (P : A → Type 0) (p : A → Bool) (l : List A) → All P l → All P (keep p l)
  unfolding keep
  all_keep P p [] h = tt
  all_keep P p (x ∷ xs) h = split (p x) (λ e. rw e (h.0, all_keep P p xs h.1)) (λ e. rw e (all_keep P p xs h.1))

  pub all_kept : (p : A → Bool) (l : List A) → All (λ x. p x ≡ true) (keep p l)
  unfolding keep
  all_kept p [] = tt
  all_kept p (x ∷ xs) = split (p x) (λ e. rw e (e, all_kept p xs)) (λ e. rw e (all_kept p xs))

  pub all_keep_back : (P : A → Type 0) (p : A → Bool) (l : List A) → All P (keep p l) → All (λ x. p x ≡ true → P x) l
  unfolding keep
  all_keep_back P p [] h = tt
  all_keep_back P p (x ∷ xs) h = split (p x) (λ t. let q = rw t at h in ((λ u. q.0), all_keep_back P p xs q.1))
      (λ t. ((λ u. clash u t), all_keep_back P p xs (rw t at h)))

  pub all_until : (P : A → Type 0) (p : A → Bool) (l : List A) → All P l → All P (until p l)
  unfolding until
  all_until P p [] h = tt
  all_until P p (x ∷ xs) h = split (p x) (λ e. rw e tt) (λ e. rw e (h.0, all_until P p xs h.1))

  pub all_get_or : (P : A → Type 0) (l : List A) (k : ℕ) (d : A) → P d → All P l → P (get_or l k d)
  all_get_or P [] k d n h = n
  all_get_or P (x ∷ xs) zero d n h = h.0
  all_get_or P (x ∷ xs) (suc k) d n h = all_get_or P xs k d n h.1

  pub all_get_or_inside : (P : A → Type 0) (l : List A) (k : ℕ) (d : A) → k < length l → All P l → P (get_or l k d)
  all_get_or_inside P [] k d i h = absurd (omega arith)
  all_get_or_inside P (x ∷ xs) zero d i h = h.0
  all_get_or_inside P (x ∷ xs) (suc k) d i h = all_get_or_inside P xs k d (omega arith) h.1

  pub all_nth : (P : A → Type 0) (l : List A) (k : ℕ) (x : A) → All P l → nth l k ≡ some x → P x
  unfolding nth
  all_nth P [] k x h e = let z : true ≡ false = cc in absurd (true≢false z)
  all_nth P (y ∷ ys) zero x h e = let z : true ≡ false = cc in absurd (true≢false z)
  all_nth P (y ∷ ys) (suc zero) x h e = let i : y ≡ x = cc in rw i at h.0
  all_nth P (y ∷ ys) (suc (suc k)) x h e = all_nth P ys (suc k) x h.1 e

  pub all_find : (P : A → Type 0) (p : A → Bool) (l : List A) (x : A) → All P l → find p l ≡ some x → P x
  unfolding find
  all_find P p [] x h e = let z : true ≡ false = cc in absurd (true≢false z)
  all_find P p (y ∷ ys) x h e = split (p y) (λ t. let s : some y ≡ some x = rw t at e in let i : y ≡ x = cc in rw i at h.0) (λ t. all_find P p ys x h.1 (rw t at e))

  -- ---- every

  pub every_all : (p : A → Bool) (l : List A) → every p l ≡ true → All (λ x. p x ≡ true) l
  unfolding every
  every_all p [] e = tt
  every_all p (x ∷ xs) e = (and_left _ _ e, every_all p xs (and_right _ _ e))

  pub all_every : (p : A → Bool) (l : List A) → All (λ x. p x ≡ true) l → every p l ≡ true
  unfolding every
  all_every p [] h = refl
  all_every p (x ∷ xs) h = and_both _ _ h.0 (all_every p xs h.1)

  pub every_append : (p : A → Bool) (l r : List A) → every p (l ++ r) ≡ (every p l and every p r)
  unfolding every ◌and◌
  every_append p [] r = refl
  every_append p (x ∷ xs) r = split (p x) (λ t. rw t (every_append p xs r)) (λ t. rw t)

  -- one element more
  pub every_more : (p : A → Bool) (l : List A) (i : ℕ) (d : A) → i < length l → every p (take (i + 1) l) ≡ (every p (take i l) and p (get_or l i d))
  unfolding every
  every_more p l i d h = rw (add-one i, take-suc l i d h) (every_append p (take i l) (get_or l i d ∷ []) ∙ ap (λ z. every p (take i l) and z) (and_true (p (get_or l i d))))

  pub every_keep : (p f : A → Bool) (l : List A) → every p l ≡ true → every p (keep f l) ≡ true
  every_keep p f l e = all_every p (keep f l) (all_keep (λ x. p x ≡ true) f l (every_all p l e))

  pub every_agree : (p q : A → Bool) (l : List A) → All (λ x. p x ≡ q x) l → every p l ≡ every q l
  unfolding every
  every_agree p q [] h = refl
  every_agree p q (y ∷ ys) h = rw (h.0, every_agree p q ys h.1)

  -- ---- an element by its number

  -- where the default fails, what passes is inside
  pub get_or_inside : (l : List A) (k : ℕ) (d : A) (p : A → Bool) → p d ≡ false → p (get_or l k d) ≡ true → k < length l
  get_or_inside [] k d p n e = clash e n
  get_or_inside (x ∷ xs) zero d p n e = omega arith
  get_or_inside (x ∷ xs) (suc k) d p n e = let h : k < length xs = get_or_inside xs k d p n e in omega arith

  pub nth_get_or : (l : List A) (i : ℕ) (d : A) → i < length l → nth l (suc i) ≡ some (get_or l i d)
  unfolding nth
  nth_get_or [] i d h = absurd (omega arith)
  nth_get_or (x ∷ xs) zero d h = refl
  nth_get_or (x ∷ xs) (suc i) d h = nth_get_or xs i d (omega arith)

  pub nth_append_left : (l r : List A) (k : ℕ) (x : A) → nth l k ≡ some x → nth (l ++ r) k ≡ some x
  unfolding nth
  nth_append_left [] r k x e = let z : true ≡ false = cc in absurd (true≢false z)
  nth_append_left (y ∷ ys) r zero x e = let z : true ≡ false = cc in absurd (true≢false z)
  nth_append_left (y ∷ ys) r (suc zero) x e = e
  nth_append_left (y ∷ ys) r (suc (suc k)) x e = nth_append_left ys r (suc k) x e

  pub length_none : (l : List A) → length l ≡ 0 → l ≡ []
  length_none [] h = refl
  length_none (x ∷ l) h = absurd (omega arith)

  pub drop_take : (o n : ℕ) (l : List A) → drop o (take (o + n) l) ≡ take n (drop o l)
  drop_take zero n l = rw (zero-add n)
  drop_take (suc o) n [] = rw (suc-add o n) (sym (take-nil n))
  drop_take (suc o) n (x ∷ xs) = rw (suc-add o n) (drop_take o n xs)

  -- a list whose elements f leaves as they are
  pub map_same : (f : A → A) (l : List A) → All (λ x. f x ≡ x) l → map f l ≡ l
  map_same f [] h = refl
  map_same f (x ∷ xs) h = ap₂ ◌∷◌ h.0 (map_same f xs h.1)

  -- a list whose elements are what f gives of those of l
  pub take_as_map : (f : A → ℕ) (d : A) (l : List A) (v : List ℕ) → ((k : ℕ) → k < length l → get_or v k 0 ≡ f (get_or l k d)) → length l ≤ length v → take (length l) v ≡ map f l
  take_as_map f d [] v a h = refl
  take_as_map f d (x ∷ l) [] a h = absurd (omega arith)
  take_as_map f d (x ∷ l) (n ∷ v) a h = let e : n ≡ f x = a 0 (omega arith) in rw (e, take_as_map f d l v (λ k i. a (suc k) (omega arith)) (omega arith))

module _ {A B : Type 0} where
  -- ---- map

  pub all_map : (P : B → Type 0) (f : A → B) (l : List A) → All (λ x. P (f x)) l → All P (map f l)
  all_map P f [] h = tt
  all_map P f (x ∷ xs) h = (h.0, all_map P f xs h.1)

  pub all_swap : (R : A → B → Type 0) (l : List A) (r : List B) → All (λ y. All (λ x. R x y) l) r → All (λ x. All (λ y. R x y) r) l
  all_swap R [] r h = tt
  all_swap R (x ∷ xs) r h = (
    all_imply (λ y. All (λ z. R z y) (x ∷ xs)) (λ y. R x y) (λ y q. q.0) r h,
    all_swap R xs r (all_imply (λ y. All (λ z. R z y) (x ∷ xs)) (λ y. All (λ z. R z y) xs) (λ y q. q.1) r h),
  )

  pub map_agree : (f g : A → B) → ((x : A) → f x ≡ g x) → (l : List A) → map f l ≡ map g l
  map_agree f g e [] = refl
  map_agree f g e (x ∷ xs) = ap₂ ◌∷◌ (e x) (map_agree f g e xs)

  pub map_append : (f : A → B) (l r : List A) → map f (l ++ r) ≡ map f l ++ map f r
  map_append f [] r = refl
  map_append f (x ∷ xs) r = ap (λ z. f x ∷ z) (map_append f xs r)

  pub get_or_map : (f : A → B) (l : List A) (k : ℕ) (d : A) (e : B) → k < length l → get_or (map f l) k e ≡ f (get_or l k d)
  get_or_map f [] k d e h = absurd (omega arith)
  get_or_map f (x ∷ xs) zero d e h = refl
  get_or_map f (x ∷ xs) (suc k) d e h = get_or_map f xs k d e (omega arith)

  pub nth_map : (f : A → B) (l : List A) (k : ℕ) → nth (map f l) k ≡ option_map f (nth l k)
  unfolding nth
  nth_map f [] k = refl
  nth_map f (x ∷ xs) zero = refl
  nth_map f (x ∷ xs) (suc zero) = refl
  nth_map f (x ∷ xs) (suc (suc k)) = nth_map f xs (suc k)

-- Laws of loops over a list: what the whole gives is what is kept and the rest give together.
-- A turn at i is given by Step l i x (step_cut for blocks, step_byte for bytes), the end by End l i (end_cut, end_list).
use Rattle.laws.specs.Base.{refl, sym, ap, ap₂, ◌∙◌, Bool, true, false, cond, List, [], append-nil, ℕ, zero, suc, add-zero, add-one, arith, length, take, drop, get_or, drop_of_length-le, length-drop, take-append-drop, drop-cons, length-take-le, take-add}
use Rattle.std.specs.Prelude.{eqb, ◌≡◌, ◌&&◌, ◌∷◌, ◌++◌, ◌+◌, ◌-◌, ◌/◌, ◌≤◌, ◌<◌}
use Rattle.laws.specs.Tests.{◌and◌, neg, is, below}
use Rattle.laws.specs.Tests.Laws.{below_more, and_true, or_no}
use Rattle.laws.specs.Lists.{same, further, place, has, every, apart, until}
use Rattle.laws.specs.Cut.{cut, block}
use Rattle.laws.specs.Cut.Laws.{drop_cut, drop_cut_end, cut_at}
use Rattle.laws.specs.Lists.Search.{has_append, has_no_place, place_append_second}

-- what a loop has at its end
pub at_end : {A : Type 0} (f : ℕ → A) {x : A} {k m : ℕ} → x ≡ f k → k ≤ m → m ≤ k → x ≡ f m
at_end f {x} {k} {m} e l r = let q : k ≡ m = omega arith in cc

-- a test of the numbers below k, one number more
pub below_go : (p : ℕ → Bool) (k : ℕ) (a t : Bool) → a ≡ below p k → t ≡ p k → (a && t) ≡ below p (k + 1)
unfolding ◌and◌
below_go p k a t e q = rw (e, q) (sym (below_more p k))

-- ---- the step and the end

-- what is left of l at i is x, then what is left at i + 1
pub record Step {X : Type 0} (l : List X) (i : ℕ) (x : X) : Type 0 where
  pub rest : drop i l ≡ x ∷ drop (i + 1) l

-- nothing is left of l at i
pub record End {X : Type 0} (l : List X) (i : ℕ) : Type 0 where
  pub rest : drop i l ≡ []

pub step_byte : (b : List ℕ) (i : ℕ) → i < length b → Step b i (get_or b i 0)
step_byte b i h = record { rest = rw (add-one, drop-cons b i 0) }

module _ {X : Type 0} where
  pub step_cut : (w : ℕ) (b : List X) (i : ℕ) → i < length b / w → Step (cut w b) i (block w b i)
  step_cut w b i h = record { rest = drop_cut w b i h }

  -- the same, with the block as it stands in the list
  pub step_cut_at : (w : ℕ) (b : List X) (i : ℕ) → i < length b / w → Step (cut w b) i (get_or (cut w b) i [])
  step_cut_at w b i h = rw (cut_at w b i h) (step_cut w b i h)

  pub end_cut : (w : ℕ) (b : List X) (i : ℕ) → length b / w ≤ i → End (cut w b) i
  end_cut w b i h = record { rest = drop_cut_end w b i h }

  pub end_list : (l : List X) (i : ℕ) → length l ≤ i → End l i
  end_list l i h = record { rest = drop_of_length-le l {i = i} h }

  pub step_inside : (l : List X) (i : ℕ) (x : X) → Step l i x → i < length l
  step_inside l i x s = let n : length l - i ≡ suc (length (drop (i + 1) l)) = sym (length-drop i l) ∙ ap length s.rest in omega arith

  pub step_take : (l : List X) (i : ℕ) (x : X) → Step l i x → take (i + 1) l ≡ take i l ++ x ∷ []
  step_take l i x s = take-add i 1 l ∙ ap (λ r. take i l ++ take 1 r) s.rest

  pub step_whole : (l : List X) (i : ℕ) (x : X) → Step l i x → l ≡ take i l ++ x ∷ drop (i + 1) l
  step_whole l i x s = sym (take-append-drop i l) ∙ ap (λ r. take i l ++ r) s.rest

  pub end_whole : (l : List X) (i : ℕ) → End l i → take i l ≡ l
  end_whole l i s = sym (append-nil (take i l)) ∙ ap (λ r. take i l ++ r) (sym s.rest) ∙ take-append-drop i l

-- ---- in general

-- a loop that keeps a
module _ {A X R : Type 0} (f : A → List X → R) (g : A → X → A) (turn : (a : A) (x : X) (xs : List X) → f a (x ∷ xs) ≡ f (g a x) xs) (l : List X) where
  pub walk_go : {w : R} (a : A) {i : ℕ} {x : X} → w ≡ f a (drop i l) → Step l i x → w ≡ f (g a x) (drop (i + 1) l)
  walk_go a {i} {x} e s = e ∙ ap (f a) s.rest ∙ turn a x (drop (i + 1) l)

-- a loop that may stop: it goes on, it stops, it ends
module _ {A X R : Type 0} (f : A → List X → R) (stop : A → X → Bool) (hit : A → X → R) (next : A → X → A)
    (turn : (a : A) (x : X) (xs : List X) → f a (x ∷ xs) ≡ cond (stop a x) (hit a x) (f (next a x) xs)) (l : List X) where
  seek : {w : R} (a : A) {i : ℕ} {x : X} → w ≡ f a (drop i l) → Step l i x → w ≡ cond (stop a x) (hit a x) (f (next a x) (drop (i + 1) l))
  seek a {i} {x} e s = e ∙ ap (f a) s.rest ∙ turn a x (drop (i + 1) l)

  pub seek_go : {w : R} (a : A) {i : ℕ} {x : X} → w ≡ f a (drop i l) → Step l i x → stop a x ≡ false → w ≡ f (next a x) (drop (i + 1) l)
  seek_go a e s n = seek a e s ∙ rw n

  pub seek_hit : {w : R} (a : A) {i : ℕ} {x : X} → w ≡ f a (drop i l) → Step l i x → stop a x ≡ true → hit a x ≡ w
  seek_hit a e s n = sym (seek a e s ∙ rw n)

-- ---- helpers of count and place

abbrev up : ℕ → ℕ → ℕ
up k zero = 0
up k (suc n) = k + suc n

up_further : (k n : ℕ) → up (k + 1) n ≡ up k (further n)
unfolding further
up_further k zero = refl
up_further k (suc n) = omega arith

up_zero : (n : ℕ) → up 0 n ≡ n
up_zero zero = refl
up_zero (suc n) = omega arith

module _ {X : Type 0} where
  -- ---- every, has, apart: a is kept, t is found at i

  every_turn : (p : X → Bool) (a : Bool) (x : X) (xs : List X) → (a and every p (x ∷ xs)) ≡ ((a && p x) and every p xs)
  unfolding ◌and◌ every
  every_turn p true x xs = refl
  every_turn p false x xs = refl

  pub every_start : (p : X → Bool) (l : List X) → every p l ≡ (true and every p (drop 0 l))
  unfolding ◌and◌
  every_start p l = refl

  pub every_go : (p : X → Bool) {l : List X} {w : Bool} (a : Bool) {t : Bool} {i : ℕ} {x : X}
      → w ≡ (a and every p (drop i l)) → Step l i x → t ≡ p x → w ≡ ((a && t) and every p (drop (i + 1) l))
  every_go p {l} a e s q = rw q (walk_go (λ (a : Bool) (r : List X). a and every p r) (λ (a : Bool) (x : X). a && p x) (every_turn p) l a e s)

  pub every_end : (p : X → Bool) {l : List X} {w : Bool} (a : Bool) {i : ℕ} → w ≡ (a and every p (drop i l)) → End l i → a ≡ w
  unfolding every
  every_end p a e s = sym (e ∙ ap (λ (r : List X). a and every p r) s.rest ∙ and_true a)

  apart_turn : (c : X → X → Bool) (a : Bool) (x : X) (xs : List X) → (a and apart c (x ∷ xs)) ≡ ((a && every (λ y. neg (c x y)) xs) and apart c xs)
  unfolding ◌and◌ apart
  apart_turn c true x xs = refl
  apart_turn c false x xs = refl

  pub apart_start : (c : X → X → Bool) (l : List X) → apart c l ≡ (true and apart c (drop 0 l))
  unfolding ◌and◌
  apart_start c l = refl

  pub apart_go : (c : X → X → Bool) {l : List X} {w : Bool} (a : Bool) {t : Bool} {i : ℕ} {x : X}
      → w ≡ (a and apart c (drop i l)) → Step l i x → t ≡ every (λ y. neg (c x y)) (drop (i + 1) l) → w ≡ ((a && t) and apart c (drop (i + 1) l))
  apart_go c {l} a {i = i} {x = x} e s q = rw q (e ∙ ap (λ (r : List X). a and apart c r) s.rest ∙ apart_turn c a x (drop (i + 1) l))

  pub apart_end : (c : X → X → Bool) {l : List X} {w : Bool} (a : Bool) {i : ℕ} → w ≡ (a and apart c (drop i l)) → End l i → a ≡ w
  unfolding apart
  apart_end c a e s = sym (e ∙ ap (λ (r : List X). a and apart c r) s.rest ∙ and_true a)

  -- ---- place

  -- the place in the rest, where k elements stand before it
  unfoldable pub place_from : ℕ → (X → Bool) → List X → ℕ
  place_from k p [] = 0
  place_from k p (x ∷ xs) = cond (p x) (k + 1) (place_from (k + 1) p xs)

  place_up : (p : X → Bool) (k : ℕ) (l : List X) → place_from k p l ≡ up k (place p l)
  unfolding place_from place
  place_up p k [] = refl
  place_up p k (x ∷ xs) = by (p x) (place_up p (k + 1) xs)
    where
      by : (t : Bool) → place_from (k + 1) p xs ≡ up (k + 1) (place p xs) → cond t (k + 1) (place_from (k + 1) p xs) ≡ up k (cond t (suc zero) (further (place p xs)))
      by true h = refl
      by false h = h ∙ up_further k (place p xs)

  place_turn : (p : X → Bool) (k : ℕ) (x : X) (xs : List X) → place_from k p (x ∷ xs) ≡ cond (p x) (k + 1) (place_from (k + 1) p xs)
  unfolding place_from
  place_turn p k x xs = refl

  pub place_start : (p : X → Bool) (l : List X) → place p l ≡ place_from 0 p (drop 0 l)
  place_start p l = sym (place_up p 0 l ∙ up_zero (place p l))

  pub place_go : (p : X → Bool) {l : List X} {w i : ℕ} {x : X}
      → w ≡ place_from i p (drop i l) → Step l i x → p x ≡ false → w ≡ place_from (i + 1) p (drop (i + 1) l)
  place_go p {l} {i = i} e s n = seek_go (λ (k : ℕ) (r : List X). place_from k p r) (λ (k : ℕ) (x : X). p x) (λ (k : ℕ) (x : X). k + 1) (λ (k : ℕ) (x : X). k + 1) (place_turn p) l i e s n

  pub place_hit : (p : X → Bool) {l : List X} {w i : ℕ} {x : X} → w ≡ place_from i p (drop i l) → Step l i x → p x ≡ true → i + 1 ≡ w
  place_hit p {l} {i = i} e s n = seek_hit (λ (k : ℕ) (r : List X). place_from k p r) (λ (k : ℕ) (x : X). p x) (λ (k : ℕ) (x : X). k + 1) (λ (k : ℕ) (x : X). k + 1) (place_turn p) l i e s n

  -- ---- until: how many stand before the first that passes

  until_by : (t : Bool) (n : ℕ) (x : X) (l : List X) → n + length (cond t [] (x ∷ l)) ≡ cond t n (n + 1 + length l)
  until_by true n x l = omega arith
  until_by false n x l = omega arith

  until_turn : (p : X → Bool) (n : ℕ) (x : X) (xs : List X) → n + length (until p (x ∷ xs)) ≡ cond (p x) n (n + 1 + length (until p xs))
  unfolding until
  until_turn p n x xs = until_by (p x) n x (until p xs)

  pub until_rest_start : (p : X → Bool) (l : List X) → length (until p l) ≡ 0 + length (until p (drop 0 l))
  until_rest_start p l = omega arith

  pub until_rest_go : (p : X → Bool) {l : List X} {w i : ℕ} {x : X}
      → w ≡ i + length (until p (drop i l)) → Step l i x → p x ≡ false → w ≡ i + 1 + length (until p (drop (i + 1) l))
  until_rest_go p {l} {i = i} e s n = seek_go (λ (n : ℕ) (r : List X). n + length (until p r)) (λ (n : ℕ) (x : X). p x) (λ (n : ℕ) (x : X). n) (λ (n : ℕ) (x : X). n + 1) (until_turn p) l i e s n

  pub until_rest_hit : (p : X → Bool) {l : List X} {w i : ℕ} {x : X} → w ≡ i + length (until p (drop i l)) → Step l i x → p x ≡ true → i ≡ w
  until_rest_hit p {l} {i = i} e s n = seek_hit (λ (n : ℕ) (r : List X). n + length (until p r)) (λ (n : ℕ) (x : X). p x) (λ (n : ℕ) (x : X). n) (λ (n : ℕ) (x : X). n + 1) (until_turn p) l i e s n

  pub until_rest_end : (p : X → Bool) {l : List X} {w i : ℕ} → w ≡ i + length (until p (drop i l)) → End l i → i ≡ w
  unfolding until
  until_rest_end p {i = i} e s = sym (e ∙ ap (λ (r : List X). i + length (until p r)) s.rest ∙ add-zero i)

  -- ---- a search: i elements are passed by, of which none passes the test

  pub search_start : (p : X → Bool) → has p [] ≡ false
  unfolding has
  search_start p = refl

  module _ (p : X → Bool) {l : List X} {i : ℕ} {x : X} (no : has p (take i l) ≡ false) (s : Step l i x) where
    pub search_miss : p x ≡ false → has p (take (i + 1) l) ≡ false
    unfolding has
    search_miss e = ap (has p) (step_take l i x s) ∙ has_append p (take i l) (x ∷ []) ∙ or_no _ _ no (or_no _ _ e refl)

    pub search_place : p x ≡ true → i + 1 ≡ place p l
    search_place e =
        let h : i < length l = step_inside l i x s in
        let n : length (take i l) ≡ i = length-take-le i l (omega arith) in
        let q : place p l ≡ suc (length (take i l)) = ap (place p) (step_whole l i x s) ∙ place_append_second p (take i l) x (drop (i + 1) l) no e in
        omega arith

  module _ (p : X → Bool) {l : List X} {i : ℕ} (no : has p (take i l) ≡ false) (s : End l i) where
    pub search_end : has p l ≡ false
    search_end = ap (has p) (sym (end_whole l i s)) ∙ no

    pub search_end_place : 0 ≡ place p l
    search_end_place = sym (has_no_place p l search_end)

-- ---- two lists of numbers compared, element by element

same_turn : (a : Bool) (x y : ℕ) (xs ys : List ℕ) → (a and same (x ∷ xs) (y ∷ ys)) ≡ ((a && eqb x y) and same xs ys)
unfolding ◌and◌ same is
same_turn true x y xs ys = refl
same_turn false x y xs ys = refl

pub same_start : (b d : List ℕ) → same b d ≡ (true and same (drop 0 b) (drop 0 d))
unfolding ◌and◌
same_start b d = refl

pub same_go : {b d : List ℕ} {w : Bool} (a : Bool) {t : Bool} {i x y : ℕ}
    → w ≡ (a and same (drop i b) (drop i d)) → Step b i x → Step d i y → t ≡ eqb x y → w ≡ ((a && t) and same (drop (i + 1) b) (drop (i + 1) d))
same_go {b} {d} a {i = i} {x = x} {y = y} e s r q = rw q (e ∙ ap₂ (λ (k m : List ℕ). a and same k m) s.rest r.rest ∙ same_turn a x y (drop (i + 1) b) (drop (i + 1) d))

pub same_end : {b d : List ℕ} {w : Bool} (a : Bool) {i : ℕ} → w ≡ (a and same (drop i b) (drop i d)) → End b i → End d i → a ≡ w
unfolding same
same_end a e s r = sym (e ∙ ap₂ (λ (k m : List ℕ). a and same k m) s.rest r.rest ∙ and_true a)

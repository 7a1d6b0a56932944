-- Two rows of series that agree in content under every key agree under every id too, if in each no id and no key stands twice: a series is then the only one
-- with its key and the only one with its id, and id and key are of its content.
use Rattle.std.specs.Prelude.{◌≡◌, ◌∷◌, ◌++◌, ◌+◌, ◌≤◌}
use Rattle.laws.specs.Base.{refl, sym, ap, ◌∙◌, Bool, true, false, true≢false, Option, none, some, option_map, List, [], ℕ, zero, suc, arith, length, length-append}
use Rattle.laws.specs.Tests.{neg}
use Rattle.laws.specs.Tests.Laws.{split, clash, and_left, and_right, and_both, neg_yes, neg_true, or_yes_left, or_yes_right}
use Rattle.laws.specs.Lists.{further, find, place, nth, apart, All}
use Rattle.laws.specs.Lists.Same.{same_yes, same_equal}
use Rattle.laws.specs.Lists.Each.{all_nth, all_imply, all_both, all_find, every_all, all_every}
use Rattle.laws.specs.Lists.Search.{find_passes, find_sieve, nth_place}
use Rattle.laws.specs.Bytes.{part}
use Rattle.laws.specs.Bytes.Laws.{part_length, part_part, part_append_left, part_over}
use Rattle.paper.specs.Layout.{Bytes, Block, id_of, key}
use Rattle.paper.specs.Book.{id_is, key_is, slot_of, is_series_of, own_series}
use Rattle.facts.specs.Verdict.{same_id_or_key}
use Rattle.facts.specs.Keys.{key_equal, key_is_yes, key_is_equal}
use Rattle.facts.specs.Pairs.{of_slot, of_slot_where_own, of_slot_other, view_found, view_held}
use Rattle.promises.specs.Words.{content}

-- ---- distinct elements

module _ {A : Type 0} where
  -- where two that pass clash, one that passes is the one that is found
  pub apart_find : (c : A → A → Bool) (q : A → Bool) (l : List A) → apart c l ≡ true → (k : ℕ) (x : A) → nth l k ≡ some x → q x ≡ true
      → ((y : A) → q y ≡ true → c y x ≡ true) → find q l ≡ some x
  unfolding nth apart find
  apart_find c q [] a k x e t g = let z : true ≡ false = cc in absurd (true≢false z)
  apart_find c q (y ∷ ys) a zero x e t g = let z : true ≡ false = cc in absurd (true≢false z)
  apart_find c q (y ∷ ys) a (suc zero) x e t g = let i : y ≡ x = cc in rw (i, t)
  apart_find c q (y ∷ ys) a (suc (suc k)) x e t g =
      let n : c y x ≡ false = neg_yes _ (all_nth (λ z. neg (c y z) ≡ true) ys (suc k) x (every_all _ ys (and_left _ _ a)) e) in
      let p : q y ≡ false = split (q y) (λ u. clash (g y u) n) (λ u. u) in
      rw p (apart_find c q ys (and_right _ _ a) (suc k) x e t g)

  -- and its place is the one that is found
  pub apart_place : (c : A → A → Bool) (q : A → Bool) (l : List A) → apart c l ≡ true → (k : ℕ) (x : A) → nth l k ≡ some x → q x ≡ true
      → ((y : A) → q y ≡ true → c y x ≡ true) → place q l ≡ k
  unfolding nth apart place further
  apart_place c q [] a k x e t g = let z : true ≡ false = cc in absurd (true≢false z)
  apart_place c q (y ∷ ys) a zero x e t g = let z : true ≡ false = cc in absurd (true≢false z)
  apart_place c q (y ∷ ys) a (suc zero) x e t g = let i : y ≡ x = cc in rw (i, t)
  apart_place c q (y ∷ ys) a (suc (suc k)) x e t g =
      let n : c y x ≡ false = neg_yes _ (all_nth (λ z. neg (c y z) ≡ true) ys (suc k) x (every_all _ ys (and_left _ _ a)) e) in
      let p : q y ≡ false = split (q y) (λ u. clash (g y u) n) (λ u. u) in
      rw (p, apart_place c q ys (and_right _ _ a) (suc k) x e t g)

  apart_find_other : (c : A → A → Bool) (p q : A → Bool) (l : List A) → apart c l ≡ true → (x : A) → find p l ≡ some x → q x ≡ true
      → ((y : A) → q y ≡ true → c y x ≡ true) → find q l ≡ some x
  apart_find_other c p q l a x e t g = apart_find c q l a (place p l) x (nth_place p l ∙ e) t g

  -- what clashes less is apart too
  pub apart_less : (c e : A → A → Bool) (Q : A → Type 0) → ((x y : A) → Q x → Q y → c x y ≡ true → e x y ≡ true) → (l : List A) → All Q l → apart e l ≡ true
      → apart c l ≡ true
  unfolding apart
  apart_less c e Q g [] q a = refl
  apart_less c e Q g (x ∷ xs) q a =
      and_both _ _
      (all_every _ xs (all_imply (λ y. Q y × (neg (e x y) ≡ true)) (λ y. neg (c x y) ≡ true)
      (λ y r. neg_true _ (split (c x y) (λ t. clash (g x y q.0 r.0 t) (neg_yes _ r.1)) (λ t. t))) xs
      (all_both Q (λ y. neg (e x y) ≡ true) xs q.1 (every_all _ xs (and_left _ _ a)))))
      (apart_less c e Q g xs q.1 (and_right _ _ a))

-- ---- id and key are of the content

content_middle : (x : Block) → length x ≡ 512 → (o n : ℕ) → o + n ≤ 96 → part (6 + o) n (content x) ≡ part (8 + o) n x
unfolding content
content_middle x l o n h =
    let a : length (part 0 6 x) ≡ 6 = part_length 0 6 x (omega arith) in
    let b : length (part 8 96 x) ≡ 96 = part_length 8 96 x (omega arith) in
    part_append_left (6 + o) n (part 0 6 x ++ part 8 96 x) (part 108 400 x) (omega (arith, length-append (part 0 6 x) (part 8 96 x)))
    ∙ part_over (part 0 6 x) (part 8 96 x) 6 o n a ∙ part_part 8 96 o n x h

content_id : (x y : Block) → length x ≡ 512 → length y ≡ 512 → content x ≡ content y → id_of x ≡ id_of y
unfolding id_of
content_id x y l k e = sym (content_middle x l 0 16 (omega arith)) ∙ ap (part 6 16) e ∙ content_middle y k 0 16 (omega arith)

content_types : (x : Block) → length x ≡ 512 → part 4 2 (content x) ≡ part 4 2 x
unfolding content
content_types x l =
    let a : length (part 0 6 x) ≡ 6 = part_length 0 6 x (omega arith) in
    part_append_left 4 2 (part 0 6 x ++ part 8 96 x) (part 108 400 x) (omega (arith, length-append (part 0 6 x) (part 8 96 x)))
    ∙ part_append_left 4 2 (part 0 6 x) (part 8 96 x) (omega arith) ∙ part_part 0 6 4 2 x (omega arith)

pub content_key : (x y : Block) → length x ≡ 512 → length y ≡ 512 → content x ≡ content y → key x ≡ key y
content_key x y l k e = key_equal x y (sym (content_types x l) ∙ ap (part 4 2) e ∙ content_types y k)
    (sym (content_middle x l 16 80 (omega arith)) ∙ ap (part 22 80) e ∙ content_middle y k 16 80 (omega arith))

-- ---- a sender's series, among the used slots us

pub own_viewed : (view : Block → Bytes) (us : List Block) (e : Bytes) (q : Block → Bool) → view_found view q (own_series us e) ≡ view_held view us e q
unfolding view_found view_held own_series
own_viewed view us e q = ap (option_map view) (find_sieve q (is_series_of (slot_of us e)) (of_slot (slot_of us e) q) (of_slot_where_own (slot_of us e) q)
    (of_slot_other (slot_of us e) q) us)

-- ---- found by its id

id_is_yes : (id : Bytes) (x : Block) → id_is id x ≡ true → id_of x ≡ id
unfolding id_is
id_is_yes id x t = same_yes _ _ t

id_is_equal : (id : Bytes) (x : Block) → id_of x ≡ id → id_is id x ≡ true
unfolding id_is
id_is_equal id x e = same_equal _ _ e

found_by_key : (l : List Block) → apart same_id_or_key l ≡ true → (id : Bytes) (x : Block) → find (id_is id) l ≡ some x → find (key_is (key x)) l ≡ some x
unfolding same_id_or_key
found_by_key l a id x e = apart_find_other same_id_or_key (id_is id) (key_is (key x)) l a x e (key_is_equal (key x) x refl)
    (λ y t. or_yes_right _ _ (same_equal _ _ (key_is_yes (key x) y t)))

found_by_id : (l : List Block) → apart same_id_or_key l ≡ true → (p : Bytes) (x : Block) → find (key_is p) l ≡ some x → find (id_is (id_of x)) l ≡ some x
unfolding same_id_or_key
found_by_id l a p x e = apart_find_other same_id_or_key (key_is p) (id_is (id_of x)) l a x e (id_is_equal (id_of x) x refl)
    (λ y t. or_yes_left _ _ (same_equal _ _ (id_is_yes (id_of x) y t)))

-- a row of whole series, no id and no key twice
pub record Row (l : List Block) : Type 0 where
  pub whole : All (λ x. length x ≡ 512) l
  pub distinct : apart same_id_or_key l ≡ true

abbrev ByKeys : List Block → List Block → Type 0
ByKeys l r = (k : Bytes) → view_found content (key_is k) l ≡ view_found content (key_is k) r

viewed_yes : (o : Option Block) (q : Bytes) → some q ≡ option_map content o → (y : Block) × (o ≡ some y) × (q ≡ content y)
viewed_yes none q e = let z : true ≡ false = cc in absurd (true≢false z)
viewed_yes (some y) q e = (y, refl, cc)

-- what one row has under an id the other has
pub other_has : (l r : List Block) → Row l → Row r → ByKeys l r → (id : Bytes) (x : Block) → find (id_is id) l ≡ some x
    → (y : Block) × (find (id_is id) r ≡ some y) × (content x ≡ content y) × (key x ≡ key y)
unfolding view_found
other_has l r a b f id x e =
    let g : some (content x) ≡ option_map content (find (key_is (key x)) r) = sym (ap (option_map content) (found_by_key l a.distinct id x e)) ∙ f (key x) in
    let v = viewed_yes (find (key_is (key x)) r) (content x) g in
    let y : Block = v.0 in
    let lx : length x ≡ 512 = all_find (λ z. length z ≡ 512) _ l x a.whole e in
    let ly : length y ≡ 512 = all_find (λ z. length z ≡ 512) _ r y b.whole v.1 in
    let i : id_of y ≡ id = sym (content_id x y lx ly v.2) ∙ id_is_yes id x (find_passes _ l x e) in
    (y, rw i at (found_by_id r b.distinct (key x) y v.1), v.2, content_key x y lx ly v.2)

pub by_id : (l r : List Block) → Row l → Row r → ByKeys l r → (id : Bytes) → view_found content (id_is id) l ≡ view_found content (id_is id) r
unfolding view_found
by_id l r a b f id = by (find (id_is id) l) (find (id_is id) r) refl refl
  where
    by : (o u : Option Block) → find (id_is id) l ≡ o → find (id_is id) r ≡ u → option_map content o ≡ option_map content u
    by none none d e = refl
    by none (some y) d e =
        let q = other_has r l b a (λ p. sym (f p)) id y e in
        let z : none ≡ some q.0 = sym d ∙ q.1 in
        let w : true ≡ false = cc in absurd (true≢false w)
    by (some x) u d e =
        let q = other_has l r a b f id x d in
        let z : u ≡ some q.0 = sym e ∙ q.1 in
        rw z (ap some q.2)

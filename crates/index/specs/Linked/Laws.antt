-- The links made, from the last block back, and followed: what they leave out is of other buckets.
use Rattle.std.specs.Prelude.{◌≡◌, Bool, true, false, cond, Option, None, Some, IfSome, ℕ, zero, suc, ◌+◌, ◌-◌, ◌≤◌, ◌<◌, drop, set}
use Rattle.std.specs.Fn.{FnReturnsAt, Shared}
use Rattle.std.specs.Option.{is_some}
use denote.Ref.{Bor}
use Rattle.std.proofs.Math.Path.{refl, sym, ap}
use Rattle.std.proofs.Common.{◌∙◌, arith, add-zero, length-drop, length-set, drop_of_length-le, drop-drop, get_or-drop, get_or-set_same}
use mathlib.Core.List.{List, [], ◌∷◌, map}
use Rattle.std.proofs.Math.Numerals.{add-one}
use Rattle.std.proofs.Math.ListN.{length, get_or, get_or-map, length-map}
use Rattle.std.proofs.Math.Seq.{get_or-set_other}
use Rattle.laws.specs.Tests.{◌and◌, is, less}
use Rattle.laws.specs.Tests.Laws.{split, clash, is_yes, is_no, is_equal, less_yes, less_no, and_left, and_right, and_both}
use Rattle.laws.specs.Lists.{place, count}
use Rattle.laws.specs.Lists.Same.{same_yes}
use Rattle.laws.specs.Lists.Each.{all_imply, every_all, all_get_or}
use Rattle.laws.specs.Loops.{place_from, place_go, place_hit}
use Rattle.laws.specs.Skips.{Skips, none_passes, first_passes, step_at}
use Rattle.paper.specs.Layout.{Block, zeros, pair}
use Rattle.paper.specs.Book.{is_series, is_series_of, id_is}
use Rattle.facts.specs.Keys.{key_is_yes, key_parties_agreement}
use Rattle.facts.specs.Pairs.{trade_pair}
use Rattle.index.specs.Ahead.{following, Stands, Ends, AllEnd}
use Rattle.index.specs.Ahead.Laws.{ends_by, ends_most, next_further}
use Rattle.index.specs.declared.By.{By}
use Rattle.index.specs.declared.By.TheVariants.{Id, Key, Trade}
use Rattle.index.specs.Linked.{bucket, hashed, alike, own_in, series_in, Heads, Nexts, Links, Told, Search, Finds, own_with, FoundBy}

-- ---- a walk on its way, at the place at: w is what f makes of the blocks from there on

pub record Walk {R : Type 0} (p : Block → Bool) (f : ℕ → List Block → R) (z : R) (l : List Block) (w : R) (at : ℕ) : Type 0 where
  pub last : at ≡ 0 → w ≡ z
  pub inside : (at ≡ 0 → ⊥) → at - 1 < length l
  pub linked : (at ≡ 0 → ⊥) → p (get_or l (at - 1) []) ≡ true
  pub rest : (at ≡ 0 → ⊥) → w ≡ f (at - 1) (drop (at - 1) l)

-- the same, from block t on
pub record From {R : Type 0} (p : Block → Bool) (f : ℕ → List Block → R) (z : R) (l : List Block) (w : R) (t at : ℕ) : Type 0 where
  pub walk : Walk p f z l w at
  pub later : (at ≡ 0 → ⊥) → t ≤ at - 1

pub from : {R : Type 0} (p : Block → Bool) (f : ℕ → List Block → R) (z : R) (s : Skips p f z) (l : List Block) (w : R) (t at : ℕ)
    → at ≡ place_from t p (drop t l) → w ≡ f t (drop t l) → From p f z l w t at
from p f z s l w t zero e a = record {
  walk = record { last = λ y. a ∙ none_passes p f z s t (drop t l) e; inside = λ n. absurd (n refl); linked = λ n. absurd (n refl); rest = λ n. absurd (n refl) };
  later = λ n. absurd (n refl);
}
from p f z s l w t (suc n) e a =
    let h = first_passes p f z s [] t (drop t l) n e in
    let m : ℕ = h.0 in
    let i : m < length (drop t l) = h.2 in
    let k : suc n - 1 ≡ t + m = omega (arith, h.1) in
    record {
      walk = record {
        last = λ y. absurd (omega arith);
        inside = λ _. omega (arith, length-drop t l);
        linked = λ _. rw k (ap p (sym (get_or-drop t l m [])) ∙ h.3);
        rest = λ _. rw k (a ∙ h.4 ∙ ap (f (t + m)) (drop-drop m t l));
      };
      later = λ _. omega arith;
    }

-- how far it is to the end
unfoldable pub left : ℕ → ℕ
left zero = 0
left (suc n) = 1001 - suc n

pub left_most : (at : ℕ) → at ≤ 1000 → 0 + left at ≤ 1000
unfolding left
left_most zero h = omega arith
left_most (suc n) h = omega arith

-- a step further is nearer to the end
pub nearer : (n : List ℕ) (at m : ℕ) → Ends n at → (at ≡ 0 → ⊥) → m ≡ get_or n (at - 1) 0 → left m < left at
unfolding left
nearer n zero m a c e = absurd (c refl)
nearer n (suc j) zero a c e = let q = ends_most n (suc j) a in omega (arith, q)
nearer n (suc j) (suc m) a c e =
    let q = ends_most n (suc j) a in
    let u = next_further n (suc j) a c e (λ w. absurd (omega (arith, w))) in
    omega (arith, q, u)

-- ---- a search: the first that passes q is sought among the blocks linked by p

sought : (p q : Block → Bool) → ((x : Block) → q x ≡ true → p x ≡ true) → Skips p (λ k. place_from k q) 0
unfolding place_from
sought p q f = record { skip = λ k x xs e. let n : q x ≡ false = split (q x) (λ u. clash (f x u) e) (λ u. u) in rw n; empty = λ k. refl }

module _ (nexts : List ℕ) (gives : ℕ → Bool → Type 0) (start : ℕ) where
  -- what is passed by is not sought
  abbrev pub Going : ℕ → Type 0
  Going at =
      (l : List Block) (p q : Block → Bool) (t : ℕ) → Search nexts gives l p q t → start ≡ place_from t p (drop t l) → From p (λ k. place_from k q) 0 l (place_from t q (drop t l)) t at

  pub going_start : Going start
  going_start l p q t s e = from p (λ k. place_from k q) 0 (sought p q s.linked) l (place_from t q (drop t l)) t start e refl

  module _ (at : ℕ) (a : Going at) where
    pub going_end : at ≡ 0 → Finds nexts gives start at
    going_end z l p q t s e = z ∙ sym ((a l p q t s e).walk.last z)

    module _ (n : at ≡ 0 → ⊥) where
      pub going_hit : gives (at - 1) true → Finds nexts gives start at
      going_hit g l p q t s e =
          let o = (a l p q t s e).walk in
          let z : at - 1 + 1 ≡ at = omega arith in
          sym z ∙ place_hit q (o.rest n) (step_at [] l (at - 1) (o.inside n)) (sym (s.told (at - 1) true (o.inside n) g))

      pub going_on : gives (at - 1) false → {m : ℕ} → m ≡ get_or nexts (at - 1) 0 → Going m
      going_on g {m} k l p q t s e =
          let b = a l p q t s e in
          let o = b.walk in
          let i : at - 1 < length l = o.inside n in
          let w = place_go q (o.rest n) (step_at [] l (at - 1) i) (sym (s.told (at - 1) false i g)) in
          let f = from p (λ k. place_from k q) 0 (sought p q s.linked) l (place_from t q (drop t l)) (at - 1 + 1) m (k ∙ s.along (at - 1) (b.later n) i (o.linked n)) w in
          record { walk = f.walk; later = λ c. omega (arith, b.later n, f.later c) }

-- in a bucket
pub in_bucket : (p : ℕ → Block → Bool) (l : List Block) (n : List ℕ) → Nexts p l 0 n → (g : ℕ) (q : Block → Bool) (gives : ℕ → Bool → Type 0) (t : ℕ) → ((x : Block) → q x ≡ true → p g x ≡ true)
    → ((j : ℕ) (b : Bool) → j < length l → gives j b → b ≡ q (get_or l j [])) → Search n gives l (p g) q t
unfolding Nexts
in_bucket p l n a g q gives t f told = record { along = λ j c d e. a j (omega arith) d g e; linked = f; told = told }

pub next_of : (p : ℕ → Block → Bool) (l : List Block) (n : List ℕ) → Nexts p l 0 n → (g j : ℕ) → j < length l → p g (get_or l j []) ≡ true → get_or n j 0 ≡ place_from (j + 1) (p g) (drop (j + 1) l)
unfolding Nexts
next_of p l n a g j d e = a j (omega arith) d g e

pub first_of : (p : ℕ → Block → Bool) (l : List Block) (h n : List ℕ) → Links p l 0 h n → (g : ℕ) → g < 1024 → get_or h g 0 ≡ place_from 0 (p g) (drop 0 l)
unfolding Heads
first_of p l h n a g c = a.begin g c

-- ---- of at most 1,000 blocks, each walk along the links ends

module _ (p : ℕ → Block → Bool) (l : List Block) (n : List ℕ) (a : Nexts p l 0 n) (few : length l ≤ 1000) where
  -- the place of the first that is linked in g, from some block on
  abbrev Placed : (g at : ℕ) → Type 0
  Placed g at = (t : ℕ) × (at ≡ place_from t (p g) (drop t l))

  placed : (g t at : ℕ) → at ≡ place_from t (p g) (drop t l) → From (p g) (λ k. place_from k (p g)) 0 l at t at
  placed g t at e = from (p g) (λ k. place_from k (p g)) 0 (sought (p g) (p g) (λ x u. u)) l at t at e e

  placed_stands : (g at : ℕ) → Placed g at → Stands n at × Placed g (following n at)
  unfolding following
  placed_stands g zero b = ((omega arith, λ c. absurd (c refl)), b)
  placed_stands g (suc j) b =
      let o = (placed g b.0 (suc j) b.1).walk in
      let z : suc j - 1 ≡ j = omega arith in
      let i : j < length l = rw z at (o.inside (λ c. absurd (omega (arith, c)))) in
      let y : p g (get_or l j []) ≡ true = rw z at (o.linked (λ c. absurd (omega (arith, c)))) in
      let q = next_of p l n a g j i y in
      ((omega (arith, i, few), λ c. let w = (placed g (j + 1) (get_or n j 0) q).later c in omega (arith, c, w)), (j + 1, q))

  placed_ends : (g at : ℕ) → Placed g at → Ends n at
  placed_ends g = ends_by n (Placed g) (placed_stands g)

  -- one that begins at the next of a block
  pub next_ends : (g i : ℕ) → i < length l → p g (get_or l i []) ≡ true → Ends n (get_or n i 0)
  next_ends g i d e = placed_ends g (get_or n i 0) (i + 1, next_of p l n a g i d e)

-- one that begins at a head
pub links_end : (p : ℕ → Block → Bool) (l : List Block) (h n : List ℕ) → Links p l 0 h n → length l ≤ 1000 → AllEnd h n
links_end p l h n a few g c = placed_ends p l n a.go_on few g (get_or h g 0) (0, first_of p l h n a g c)

-- ---- a bucket counted: n blocks of it are passed by

counting : (p : Block → Bool) (n : ℕ) → Skips p (λ k r. n + count p r) n
unfolding count
counting p n = record { skip = λ k x xs e. rw e; empty = λ k. add-zero n }

-- a block of the bucket more
counted : (p : Block → Bool) (n : ℕ) (l : List Block) {k w : ℕ} → w ≡ n + count p (drop k l) → k < length l → p (get_or l k []) ≡ true → w ≡ n + 1 + count p (drop (k + 1) l)
unfolding count
counted p n l {k} e h t =
    let s : count p (drop k l) ≡ 1 + count p (drop (k + 1) l) = ap (count p) (step_at [] l k h).rest ∙ rw t (omega arith) in
    omega arith

module _ (heads nexts : List ℕ) (g : ℕ) where
  abbrev pub Counting : (n at : ℕ) → Type 0
  Counting n at = (l : List Block) (p : ℕ → Block → Bool) → Links p l 0 heads nexts → Walk (p g) (λ k r. n + count (p g) r) n l (count (p g) l) at

  pub counting_start : g < 1024 → {at : ℕ} → at ≡ get_or heads g 0 → Counting 0 at
  counting_start few e l p a = (from (p g) _ _ (counting (p g) 0) l _ 0 _ (e ∙ first_of p l heads nexts a g few) (omega arith)).walk

  module _ (n at : ℕ) (c : Counting n at) where
    pub counting_end : at ≡ 0 → (l : List Block) (p : ℕ → Block → Bool) → Links p l 0 heads nexts → n ≡ count (p g) l
    counting_end z l p a = sym ((c l p a).last z)

    pub counting_on : (at ≡ 0 → ⊥) → {m : ℕ} → m ≡ get_or nexts (at - 1) 0 → Counting (n + 1) m
    unfolding Nexts
    counting_on z k l p a =
        let o = c l p a in
        let i : at - 1 < length l = o.inside z in
        (from (p g) _ _ (counting (p g) (n + 1)) l _ (at - 1 + 1) _ (k ∙ a.go_on (at - 1) (omega arith) i g (o.linked z)) (counted (p g) n l (o.rest z) i (o.linked z))).walk

-- ---- the links made: block i − 1 is put before those of its bucket that come later, or left out

module _ (p : ℕ → Block → Bool) (l : List Block) where
  heads_none : (h : List ℕ) → zeros h ≡ true → (m : ℕ) → length l ≤ m → Heads p l m h
  unfolding Heads zeros place_from
  heads_none h z m k g i =
      all_get_or (λ x. x ≡ 0) h g 0 refl (all_imply (λ x. is x 0 ≡ true) (λ x. x ≡ 0) (λ x. is_yes x 0) h (every_all _ h z))
      ∙ sym (ap (place_from m (p g)) (drop_of_length-le l {i = m} k))

  nexts_none : (n : List ℕ) (m : ℕ) → length l ≤ m → Nexts p l m n
  unfolding Nexts
  nexts_none n m k j a b = absurd (omega arith)

  module _ (k : ℕ) (i : k < length l) where
    turn : (g : ℕ) → place_from k (p g) (drop k l) ≡ cond (p g (get_or l k [])) (k + 1) (place_from (k + 1) (p g) (drop (k + 1) l))
    unfolding place_from
    turn g = ap (place_from k (p g)) (step_at [] l k i).rest

    module _ (h n : List ℕ) (a : Heads p l (suc k) h) where
      heads_left_at : ((g : ℕ) → p g (get_or l k []) ≡ false) → Heads p l k h
      unfolding Heads
      heads_left_at f g c = a g c ∙ sym (turn g ∙ rw (f g, add-one k))

      heads_put_at : (b : ℕ) → ((g : ℕ) → p g (get_or l k []) ≡ is b g) → b < length h → Heads p l k (set h b (suc k))
      unfolding Heads
      heads_put_at b f w g c =
          split (is b g)
          (λ u. rw (turn g, f g, u, add-one k, ← is_yes b g u) (get_or-set_same h b (suc k) 0 w))
          (λ u. rw (turn g, f g, u, add-one k) (get_or-set_other h b g (suc k) 0 (λ q. is_no b g u (sym q)) ∙ a g c))

      module _ (m : Nexts p l (suc k) n) where
        nexts_left_at : ((g : ℕ) → p g (get_or l k []) ≡ false) → Nexts p l k n
        unfolding Nexts
        nexts_left_at f j c d g e =
            split (less k j)
            (λ u. m j (less_yes k j u) d g e)
            (λ u. let q : j ≡ k = omega (arith, less_no k j u) in clash e (rw q (f g)))

        nexts_put_at : (b : ℕ) → ((g : ℕ) → p g (get_or l k []) ≡ is b g) → b < 1024 → k < length n → Nexts p l k (set n k (get_or h b 0))
        unfolding Heads Nexts
        nexts_put_at b f w v j c d g e =
            split (less k j)
            (λ u. let z : k < j = less_yes k j u in get_or-set_other n k j _ 0 (λ q. omega arith) ∙ m j z d g e)
            (λ u.
            let q : j ≡ k = omega (arith, less_no k j u) in
            let y : b ≡ g = is_yes b g (sym (f g) ∙ (rw q at e)) in
            rw (q, ← y, add-one k) (get_or-set_same n k _ 0 v ∙ a b w))

  pub none : (h n : List ℕ) → zeros h ≡ true → length h ≡ 1024 → length n ≡ 1000 → (m : ℕ) → length l ≤ m → Links p l m h n
  none h n z v w m k = record { begin = heads_none h z m k; go_on = nexts_none n m k; buckets = v; nexts_length = w }

  module _ (k : ℕ) (i : k < length l) (h n : List ℕ) {m : ℕ} (e : 0 < m) (z : k ≡ m - 1) (c : Links p l m h n) where
    from_next : Links p l (suc k) h n
    from_next = let q : m ≡ suc k = omega arith in rw q at c

    pub left_out : Told p (get_or l k []) None → Links p l k h n
    left_out f =
        let a = from_next in
        record { begin = heads_left_at k i h n a.begin f; go_on = nexts_left_at k i h n a.begin a.go_on f; buckets = a.buckets; nexts_length = a.nexts_length }

    pub put : (b : ℕ) → Told p (get_or l k []) (Some b) → b < 1024 → k < 1000 → Links p l k (set h b (k + 1)) (set n k (get_or h b 0))
    put b f w v =
        let a = from_next in
        rw (add-one k) (record {
          begin = heads_put_at k i h n a.begin b f (omega (arith, a.buckets));
          go_on = nexts_put_at k i h n a.begin a.go_on b f w (omega (arith, a.nexts_length));
          buckets = length-set h b (suc k) ∙ a.buckets;
          nexts_length = length-set n k (get_or h b 0) ∙ a.nexts_length;
        })

pub all_linked : (p : ℕ → Block → Bool) (l : List Block) (h n : List ℕ) (i : ℕ) → i ≤ 0 → Links p l i h n → Links p l 0 h n
all_linked p l h n i z a = let e : i ≡ 0 = omega arith in rw e at a

-- a block is linked where t holds, in the bucket v
pub told_where : (p : ℕ → Block → Bool) (x : Block) (t : Bool) (v : ℕ) (r : Option ℕ) {made : ℕ → Type 0} → is_some r ≡ t → IfSome r made → ((b : ℕ) → made b → (b ≡ v) × (b < 1024))
    → (t ≡ true → Told p x (Some v)) → (t ≡ false → Told p x None) → Told p x r × IfSome r (λ g. g < 1024)
told_where p x t v None e s f y n = (n (sym e), tt)
told_where p x t v (Some b) e s f y n = let k = f b s in (rw k.0 (y (sym e)), k.1)

-- a call at a block
pub call_at : {F T R : Type 0} (g : Shared F (Bor T × Unit {0}) R) (f : F) {x : T} {r : R} (b : Bor T) → b.now ≡ x → g.post f (b, tt) r → FnReturnsAt g f x r
call_at g f b e p = record { shown = b; shows = e; says = record { met = p } }

-- ---- the links of blocks that look alike, where the test of a bucket is told by what view shows of a block

module _ {W : Type 0} (view : Block → W) (p : ℕ → Block → Bool) (q : ℕ → W → Bool) (told : (g : ℕ) (x : Block) → p g x ≡ q g (view x)) where
  place_viewed : (g t : ℕ) (l : List Block) → place_from t (p g) l ≡ place_from t (q g) (map view l)
  unfolding place_from
  place_viewed g t [] = refl
  place_viewed g t (x ∷ xs) = rw (told g x, place_viewed g (t + 1) xs)

  drop_viewed : (i : ℕ) (l : List Block) → map view (drop i l) ≡ drop i (map view l)
  drop_viewed zero l = refl
  drop_viewed (suc i) [] = refl
  drop_viewed (suc i) (x ∷ xs) = drop_viewed i xs

  module _ (l r : List Block) (e : map view l ≡ map view r) where
    same_place : (g i : ℕ) → place_from i (p g) (drop i l) ≡ place_from i (p g) (drop i r)
    same_place g i =
        place_viewed g i (drop i l) ∙ ap (place_from i (q g)) (drop_viewed i l ∙ ap (drop i) e ∙ sym (drop_viewed i r)) ∙ sym (place_viewed g i (drop i r))

    same_test : (g j : ℕ) → p g (get_or l j []) ≡ p g (get_or r j [])
    same_test g j =
        told g (get_or l j []) ∙ ap (q g) (sym (get_or-map view l j []) ∙ ap (λ k. get_or k j (view [])) e ∙ get_or-map view r j []) ∙ sym (told g (get_or r j []))

    pub links_viewed : (h n : List ℕ) → Links p l 0 h n → Links p r 0 h n
    unfolding Heads Nexts
    links_viewed h n a =
        let m : length l ≡ length r = sym (length-map l view) ∙ ap length e ∙ length-map r view in
        record {
          begin = λ g c. a.begin g c ∙ same_place g 0;
          go_on = λ j c d g t. a.go_on j c (omega arith) g (same_test g j ∙ t) ∙ same_place g (j + 1);
          buckets = a.buckets;
          nexts_length = a.nexts_length;
        }

-- ---- the two kinds of links

module _ (slot : ℕ) (by : By) (x : Block) where
  pub own_out : is_series_of slot x ≡ false → Told (own_in slot by) x None
  unfolding own_in ◌and◌
  own_out e g = rw e

  pub own_told : is_series_of slot x ≡ true → Told (own_in slot by) x (Some (bucket (hashed by x)))
  unfolding own_in ◌and◌
  own_told e g = rw e

module _ (x : Block) where
  pub series_out : is_series x ≡ false → Told series_in x None
  unfolding series_in ◌and◌
  series_out e g = rw e

  pub series_told : is_series x ≡ true → Told series_in x (Some (bucket (pair x)))
  unfolding series_in ◌and◌
  series_told e g = rw e

-- what is sought has the bucket of what it is sought by
alike_hashed : (by : By) (y x : Block) → alike by y x ≡ true → hashed by x ≡ hashed by y
unfolding alike hashed id_is
alike_hashed Id y x e = same_yes _ _ e
alike_hashed Key y x e = key_parties_agreement x y (key_is_yes _ _ e)
alike_hashed Trade y x e = trade_pair y x e

pub own_linked : (slot : ℕ) (by : By) (y x : Block) → own_with slot by y x ≡ true → own_in slot by (bucket (hashed by y)) x ≡ true
unfolding own_with own_in
own_linked slot by y x e = and_both _ _ (and_left _ _ e) (is_equal _ _ (ap bucket (alike_hashed by y x (and_right _ _ e))))

-- ---- of each block the place found

unfoldable pub FoundUpto : (Block → Block → Bool) → List Block → List Block → ℕ → List ℕ → Type 0
FoundUpto sought l of i found = (k : ℕ) → k < i → get_or found k 0 ≡ place (sought (get_or of k [])) l

module _ (sought : Block → Block → Bool) (l of : List Block) where
  pub found_none : (f : List ℕ) → FoundUpto sought l of 0 f
  unfolding FoundUpto
  found_none f k h = absurd (omega arith)

  pub found_more : (i : ℕ) (f : List ℕ) {y : Block} {n : ℕ} → i < length f → y ≡ get_or of i [] → n ≡ place (sought y) l
      → FoundUpto sought l of i f → FoundUpto sought l of (i + 1) (set f i n)
  unfolding FoundUpto
  found_more i f h e r a k c =
      split (less k i)
      (λ t. let w : k < i = less_yes k i t in get_or-set_other f i k _ 0 (λ z. omega arith) ∙ a k w)
      (λ t. let z : k ≡ i = omega (arith, less_no k i t) in rw z (get_or-set_same f i _ 0 h ∙ r ∙ ap (λ y. place (sought y) l) e))

  pub found_all : (i : ℕ) (f : List ℕ) → length of ≤ i → length f ≡ 1000 → FoundUpto sought l of i f → FoundBy sought l of f
  unfolding FoundUpto
  found_all i f h r a = record { each = λ k c. a k (omega arith); room = r }

-- What iterators give, in the words of Lists: the blocks of `chunks_exact` are those of cut; `all`, `any` and `position` are every, has, place and until; and
-- where a `for` stands in what its iterator gives.
use Rattle.laws.specs.Base.{refl, sym, ap, ◌∙◌, Bool, true, false, cond, not, List, [], ℕ, zero, suc, arith, length, append-nil, mul-one, drop, get_or, drop-cons, div-eq_of_lt, add-one, drop_of_length-le}
use Rattle.std.proofs.Common.{subst}
use denote.Ref.{Bor, MutBor}
use denote.Param.Members.{Mut}
use lib.Dec.{eqb, ltb}
use Rattle.std.specs.Prelude.{Option, None, Some, ◌&&◌, ◌*◌, ◌++◌, ◌+◌, ◌/◌, ◌<◌, ◌||◌, ◌∷◌, ◌≡◌, ◌≤◌}
use Rattle.std.specs.Cmp.Lexicographic.{pointwise}
use Rattle.std.specs.Fn.{Called}
use Rattle.std.specs.Iterator.{Yields, ChecksAll, ChecksAny, FindsPosition}
use Rattle.std.specs.List.{list_all, list_any, position_or_len}
use Rattle.std.specs.Option.{MatchOption, unwrap_or}
use Rattle.std.specs.Slice.Iter.{chunks_exact_rest, chunks_exact_size, chunks_exact_steps, chunks_exact_mut_rest, chunks_exact_mut_size, chunks_exact_mut_steps}
use Rattle.std.proofs.lemmas.Iterator.{YieldsList}
use Rattle.std.proofs.lemmas.Iterator.Consumers.{YieldsList-at, YieldsList-turn, YieldsList-end}
use Rattle.std.proofs.lemmas.Iterator.Splits.{YieldsList-from_shown_while}
use Rattle.std.proofs.lemmas.Iterator.Search.{all_from_yields_List, any_from_yields_List, position_from_yields_List}
use Rattle.laws.specs.Tests.{◌and◌, ◌or◌, is, less}
use Rattle.laws.specs.Tests.Laws.{split, less_no}
use Rattle.laws.specs.Lists.{every, has, place, same, until, further}
use Rattle.laws.specs.Cut.{cut, join, block}
use Rattle.laws.specs.Lists.Keep.{until_length}
use Rattle.laws.specs.Cut.Laws.{cut_append, cut_short, cut_join, cut_length, drop_cut}
use Rattle.laws.specs.Loops.{Step, End, end_list, step_inside}

-- the index of the first that passes, as a place
abbrev pub placed : Option ℕ → ℕ
placed None = 0
placed (Some i) = i + 1

module _ {A : Type 0} (p : A → Bool) where
  -- ---- the words of the library and ours

  pub list_all_every : (l : List A) → list_all p l ≡ every p l
  unfolding every ◌and◌
  list_all_every [] = refl
  list_all_every (x ∷ xs) = ap (λ b. p x && b) (list_all_every xs)

  pub list_any_has : (l : List A) → list_any p l ≡ has p l
  unfolding has ◌or◌
  list_any_has [] = refl
  list_any_has (x ∷ xs) = ap (λ b. p x || b) (list_any_has xs)

  pub first_until : (l : List A) → position_or_len p l ≡ length (until p l)
  unfolding until
  first_until [] = refl
  first_until (x ∷ xs) = by (p x) (first_until xs)
    where
      by : (b : Bool) → position_or_len p xs ≡ length (until p xs) → cond (not b) (1 + position_or_len p xs) 0 ≡ length (cond b [] (x ∷ until p xs))
      by true e = refl
      by false e = omega (arith, e)

  first_place : (l : List A) → placed (cond (ltb (position_or_len p l) (length l)) (Some (position_or_len p l)) None) ≡ place p l
  unfolding place further
  first_place [] = refl
  first_place (x ∷ xs) = by (p x) (position_or_len p xs) (length xs) (place p xs) (first_place xs)
    where
      on : (b : Bool) (n w : ℕ) → placed (cond b (Some n) None) ≡ w → placed (cond b (Some (1 + n)) None) ≡ further w
      on true n w e = let q : n + 1 ≡ suc n = omega arith in let k : 1 + n + 1 ≡ suc (suc n) = omega arith in k ∙ sym (ap further q) ∙ ap further e
      on false n w e = rw (sym e) refl

      by : (b : Bool) (n m w : ℕ) → placed (cond (ltb n m) (Some n) None) ≡ w
          → placed (cond (ltb (cond (not b) (1 + n) 0) (suc m)) (Some (cond (not b) (1 + n) 0)) None) ≡ cond b (suc zero) (further w)
      by true n m w e = let q : ltb 0 (suc m) ≡ true = grind arith in rw q refl
      by false n m w e = let q : ltb (1 + n) (suc m) ≡ ltb n m = grind arith in rw q (on (ltb n m) n w e)

  up_to : (l : List A) → unwrap_or (cond (ltb (position_or_len p l) (length l)) (Some (position_or_len p l)) None) (length l) ≡ position_or_len p l
  unfolding less
  up_to l = by (position_or_len p l) (length l) (rw (first_until l) (until_length p l))
    where
      by : (n m : ℕ) → n ≤ m → unwrap_or (cond (ltb n m) (Some n) None) m ≡ n
      by n m h = split (less n m) (λ e. rw e refl) (λ e. rw e (let k : m ≤ n = less_no n m e in omega arith))

  module _ {S B F : Type 0} {steps : S → Option B → S → Type 0} {v : B → A} {g : Mut F (B × Unit {0}) Bool} {s u : S} {f : F} {all : List A} (road : YieldsList steps v s all)
      (test : (x : B) (b : Bool) (q : F) → Called g f (x, tt) b q → (q ≡ f) × (b ≡ p (v x))) where
    pub every_all : {r : Bool} → ChecksAll steps g s f r u → r ≡ every p all
    every_all {r} ran = all_from_yields_List p u f r ran road test ∙ list_all_every all

    pub has_any : {r : Bool} → ChecksAny steps g s f r u → r ≡ has p all
    has_any {r} ran = any_from_yields_List p u f r ran road test ∙ list_any_has all

    pub until_found : {r : Option ℕ} → FindsPosition steps g s f r u → unwrap_or r (length all) ≡ length (until p all)
    until_found {r} ran = ap (λ o. unwrap_or o (length all)) (position_from_yields_List p u f r ran road test) ∙ up_to all ∙ first_until all

    pub place_found : {r : Option ℕ} → FindsPosition steps g s f r u → placed r ≡ place p all
    place_found {r} ran = ap placed (position_from_yields_List p u f r ran road test) ∙ first_place all

-- ---- two slices compared by `==`

pub pointwise_same : (a b : List ℕ) → pointwise eqb a b ≡ same a b
unfolding same is ◌and◌
pointwise_same [] [] = refl
pointwise_same [] (y ∷ ys) = refl
pointwise_same (x ∷ xs) [] = refl
pointwise_same (x ∷ xs) (y ∷ ys) = ap (λ b. eqb x y && b) (pointwise_same xs ys)

-- ---- the blocks of a slice

cut_front : {A : Type 0} (w : ℕ) (x t : List A) → 0 < w → length x ≡ w → cut w (x ++ t) ≡ x ∷ cut w t
unfolding join
cut_front w x t h e =
    let n : length x ≡ w * 1 = e ∙ sym (mul-one w) in
    let one : cut w x ≡ x ∷ [] = ap (cut w) (sym (append-nil x)) ∙ cut_join w (x ∷ []) h (e, tt) in
    cut_append w 1 x t n ∙ ap (λ l. l ++ cut w t) one

pub blocks_road : {A : Type 0} {s : _} (w : ℕ) (l : List A) → 0 < w → chunks_exact_rest s ≡ l → chunks_exact_size s ≡ w → YieldsList chunks_exact_steps (λ x. x.now) s (cut w l)
blocks_road {A} {s} w l h rest size =
    subst (YieldsList (chunks_exact_steps {A = A}) (λ x. x.now) s) (ap (λ k. cut w k) rest)
    (YieldsList-from_shown_while (chunks_exact_steps {A = A}) (λ x. x.now) (λ t. cut w (chunks_exact_rest t)) (λ t. chunks_exact_size t ≡ w)
    (λ t u k d. ap length (cut_short w (chunks_exact_rest t) (omega (arith, d.1.0, k))))
    (λ t x u k d. (d.0 ∙ k, ap (cut w) d.1.0 ∙ cut_front w x.now (chunks_exact_rest u) h (d.1.1 ∙ k))) s size)

-- the same at the head of a `for`, whose iterator is that of the call
pub blocks_for : {A : Type 0} {s t : _} (w : ℕ) (l : List A) → 0 < w → t ≡ s → chunks_exact_rest s ≡ l → chunks_exact_size s ≡ w → YieldsList chunks_exact_steps (λ x. x.now) t (cut w l)
blocks_for w l h same rest size = YieldsList-at same (blocks_road w l h rest size)

-- ---- a `for` on a road, which has yielded xs: it stands behind as many of what the road gives

module _ {S A B : Type 0} {steps : S → Option A → S → Type 0} {v : A → B} {s : S} {all : List B} (road : YieldsList steps v s all) (xs : List A) (t : S) (y : Yields steps s xs t) where
  pub turn : {r : Option A} {u : S} {x : A} → r ≡ Some x → steps t r u → Step all (length xs) (v x)
  turn {r} {u} {x} is go =
      let k = YieldsList-turn road xs t y r u x is go in
      let n : length xs + 1 ≡ suc (length xs) = omega arith in
      record { rest = drop-cons all (length xs) (v x) k.0 ∙ rw (sym k.1, n) refl }

  pub turn_all : {r : Option A} {u : S} → r ≡ None → steps t r u → length xs ≡ length all
  turn_all {r} {u} is go = (YieldsList-end road xs t y r u is go).1

  pub turn_end : {r : Option A} {u : S} → r ≡ None → steps t r u → End all (length xs)
  turn_end {r} {u} is go = end_list all (length xs) (let k = (YieldsList-end road xs t y r u is go).1 in omega arith)

-- the block of a turn
pub turn_block : {A : Type 0} (w : ℕ) (l : List A) {i : ℕ} {x : List A} → Step (cut w l) i x → (i < length l / w) × (x ≡ block w l i)
turn_block w l {i} {x} s =
    let n : i < length (cut w l) = step_inside (cut w l) i x s in
    let h : i < length l / w = rw (cut_length w l) at n in
    let e : x ∷ drop (i + 1) (cut w l) ≡ block w l i ∷ drop (i + 1) (cut w l) = sym s.rest ∙ drop_cut w l i h in
    (h, cc)

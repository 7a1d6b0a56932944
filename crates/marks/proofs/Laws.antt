-- A counterpart is linked in the bucket of its pair, and an external schedule has none; count and first position by position, and the mark from the numbers that the code finds.
use Rattle.std.specs.Prelude.{◌≡◌, ◌∷◌, ◌+◌, ◌≤◌, ◌<◌, Option, None, Some, IfSome}
use Rattle.std.specs.Option.{unwrap_or, option_or}
use Rattle.laws.specs.Kit.{refl, sym, ap, ◌∙◌, true, false, cond, List, [], ℕ, arith, is, split, clash, is_equal, is_other, and_both}
use Rattle.laws.specs.Lists.{same}
use Rattle.laws.specs.Lists.Same.{same_yes}
use Rattle.laws.specs.Lists.Each.{all_each}
use Rattle.laws.specs.Lists.Search.{all_has_no, has_no_find, has_no_place, place_none, place_find}
use Rattle.laws.specs.Bytes.{little}
use Rattle.paper.specs.Layout.{Bytes, Block, senders_slot, pair, quantities, entry, quantity}
use Rattle.paper.specs.Book.{numbered, is_trade, trade}
use Rattle.paper.specs.Marks.{is_counterpart, counterpart, counterpart_slot, difference_from, first_difference, differences, mark_of, mark_in}
use Rattle.facts.specs.Layout.{entry_quantities}
use Rattle.facts.specs.Pairs.{trade_none, trade_pair, counterpart_series, counterpart_trade}
use Rattle.facts.specs.Marks.{Agree, differences_most, first_most, agree_no_differences, agree_no_difference, first_where_equal, first_where_other, differences_where_equal, differences_where_other}
use Rattle.index.specs.Linked.{bucket, series_in}
use Rattle.slots.proofs.Laws.{numbered_some}

-- ---- the bucket of a counterpart

pub counterpart_linked : (slot : ℕ) (x y : Block) → is_counterpart slot (trade x) y ≡ true → series_in (bucket (pair x)) y ≡ true
unfolding series_in
counterpart_linked slot x y e =
    and_both _ _ (counterpart_series slot (trade x) y e) (is_equal _ _ (ap bucket (trade_pair x y (counterpart_trade slot (trade x) y e))))

-- ---- an external schedule has none

pub no_counterpart : (us : List Block) (x : Block) → is_trade x ≡ false → counterpart_slot us x ≡ 0
unfolding counterpart_slot
no_counterpart us x i = has_no_place _ us (all_has_no _ us (all_each (λ y. is_counterpart (senders_slot x) (trade x) y ≡ false)
    (λ y. split (is_counterpart (senders_slot x) (trade x) y) (λ t. clash (counterpart_trade _ _ y t) (trade_none x y i)) (λ t. t)) us))

-- ---- how two series differ

-- what is found of the first k positions
pub record Found (a b : Bytes) (k c f : ℕ) : Type 0 where
  pub count : c ≡ differences k a b
  pub first : f ≡ first_difference k a b

-- no more than k of them, and none above k
pub found_most : (a b : Bytes) (k c f : ℕ) → Found a b k c f → (c ≤ k) × (f ≤ k)
found_most a b k c f i = (omega (arith, i.count, differences_most a b k), omega (arith, i.first, first_most a b k))

pub found_all : (a b : Bytes) (n k c f : ℕ) → k ≤ n → n ≤ k → Found a b k c f → Found a b n c f
found_all a b n k c f h l i = let z : n ≡ k = omega arith in rw z i

-- the same bytes differ nowhere
pub found_same : (n : ℕ) (a b : Bytes) → same a b ≡ true → Found a b n 0 0
found_same n a b e =
    let f : Agree n a b = λ k h. ap (λ q. entry q k) (same_yes a b e) in
    record { count = sym (agree_no_differences a b n f); first = sym (agree_no_difference a b n f) }

pub found_none : (a b : Bytes) → Found a b 0 0 0
unfolding differences first_difference difference_from
found_none a b = record { count = refl; first = refl }

-- u and v are the quantities at position k + 1
module _ (k u v : ℕ) (x y : Block) (l : k < 100) (d : u ≡ quantity x k) (e : v ≡ quantity y k) (c f : ℕ) (i : Found (quantities x) (quantities y) k c f) where
  entries : (entry (quantities x) k ≡ u) × (entry (quantities y) k ≡ v)
  entries = (entry_quantities x k l ∙ sym d, entry_quantities y k l ∙ sym e)

  pub found_equal : u ≡ v → Found (quantities x) (quantities y) (k + 1) c f
  found_equal q =
      let h = entries.0 ∙ q ∙ sym entries.1 in
      record { count = i.count ∙ sym (differences_where_equal _ _ k h); first = i.first ∙ sym (first_where_equal _ _ k h) }

  pub found_other : (u ≡ v → ⊥) → (r : ℕ) → r ≡ cond (is f 0) (k + 1) f → Found (quantities x) (quantities y) (k + 1) (c + 1) r
  found_other q r z =
      let h : entry (quantities x) k ≡ entry (quantities y) k → ⊥ = λ w. q (sym entries.0 ∙ w ∙ entries.1) in
      record { count = ap (λ s. s + 1) i.count ∙ sym (differences_where_other _ _ k h); first = z ∙ ap (λ s. cond (is s 0) (k + 1) s) i.first ∙ sym (first_where_other _ _ k h) }

-- the first one found stays; positions are counted from 1
module _ (o : Option ℕ) (i : IfSome o (λ v. 0 < v)) (p : ℕ) where
  pub first_stays : unwrap_or (option_or o (Some p)) 0 ≡ cond (is (unwrap_or o 0) 0) p (unwrap_or o 0)
  unfolding is
  first_stays = by o i
    where
      by : (o : Option ℕ) → IfSome o (λ v. 0 < v) → unwrap_or (option_or o (Some p)) 0 ≡ cond (is (unwrap_or o 0) 0) p (unwrap_or o 0)
      by None h = refl
      by (Some v) h = let e : is v 0 ≡ false = is_other v 0 (λ q. absurd (omega (arith, h, q))) in rw e

  pub first_above : 0 < p → IfSome (option_or o (Some p)) (λ v. 0 < v)
  first_above h = by o i
    where
      by : (o : Option ℕ) → IfSome o (λ v. 0 < v) → IfSome (option_or o (Some p)) (λ v. 0 < v)
      by None k = h
      by (Some v) k = k

-- ---- the mark, where t is the slot of the counterpart

module _ (n : ℕ) (l : List Block) (x : Block) (t : ℕ) (e : t ≡ counterpart_slot l x) where
  pub mark_alone : t ≡ 0 → 0 ∷ 0 ∷ 0 ∷ 0 ∷ [] ≡ mark_in n l x
  unfolding mark_in mark_of counterpart counterpart_slot
  mark_alone z = rw (has_no_find _ l (place_none _ l t e z))

  -- and c, f are count and first
  pub mark_found_lem : (t ≡ 0 → ⊥) → (c f : ℕ) → c ≡ differences n (quantities x) (quantities (numbered l t)) → f ≡ first_difference n (quantities x) (quantities (numbered l t)) → c ∷ f ∷ little 2 t ≡ mark_in n l x
  unfolding mark_in mark_of counterpart counterpart_slot
  mark_found_lem z c f p q = rw (place_find _ l t e [] z, numbered_some l t z refl, ← e, ← p, ← q)

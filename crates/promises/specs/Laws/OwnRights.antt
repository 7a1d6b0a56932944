-- What soundness says of the rights that one sender holds: no two of them have the same areas, contract type and agreement. So which right a series names does not depend on the order in
-- which they were entered.
use Rattle.std.specs.Prelude.{◌≡◌, ◌∷◌}
use Rattle.laws.specs.Base.{refl, sym, ap, ◌∙◌, Bool, true, false, true≢false, Option, none, some, option_get_or, List, [], ℕ, length}
use Rattle.laws.specs.Tests.{◌and◌}
use Rattle.laws.specs.Tests.Laws.{split, clash, and_left, and_right, and_both}
use Rattle.laws.specs.Lists.{same, find, has, place, nth, keep, apart, All}
use Rattle.laws.specs.Lists.Same.{same_yes, same_refl}
use Rattle.laws.specs.Lists.Each.{all_imply, all_both, all_keep, all_keep_back, all_kept}
use Rattle.laws.specs.Lists.Search.{has_yes, has_no_find, find_passes, find_has, find_has_other, find_keep_and, nth_place}
use Rattle.laws.specs.Lists.Apart.{apart_keep}
use Rattle.paper.specs.Layout.{Bytes, Block, holder}
use Rattle.paper.specs.Book.{day_block, used, is_right, is_right_of, own_rights}
use Rattle.paper.specs.Sound.{right_sound, used_sound, same_right}
use Rattle.paper.specs.Rules.{names, right_for}
use Rattle.facts.specs.Book.{used_lengths}
use Rattle.facts.specs.Sound.{Sound, used_right}
use Rattle.facts.specs.Rights.{same_right_named}
use Rattle.promises.specs.Laws.ById.{apart_find, apart_less}
use Rattle.promises.specs.Words.{SameRights}

-- two rights that y names
both_named : (y a b : Block) → Bool
both_named y a b = names y a and names y b

-- a right of the sender e, in a book with the day block d
record Held (d : Block) (e : Bytes) (r : Block) : Type 0 where
  pub whole : length r ≡ 512
  pub kind : is_right r ≡ true
  pub right : right_sound d r ≡ true
  pub mine : holder r ≡ e

own_held : (book : Bytes) → Sound book → (e : Bytes) → All (Held (day_block book) e) (keep (is_right_of e) (used book))
unfolding is_right_of
own_held book s e = all_imply (λ r. (is_right_of e r ≡ true) × ((used_sound (day_block book) (used book) r ≡ true) × (length r ≡ 512))) (Held (day_block book) e)
    (λ r q. let k = and_left _ _ q.0 in record { whole = q.1.1; kind = k; right = used_right _ _ r q.1.0 k; mine = same_yes _ _ (and_right _ _ q.0) })
    (keep (is_right_of e) (used book))
    (all_both (λ r. is_right_of e r ≡ true) (λ r. (used_sound (day_block book) (used book) r ≡ true) × (length r ≡ 512)) (keep (is_right_of e) (used book)) (all_kept (is_right_of e) (used book))
    (all_keep (λ r. (used_sound (day_block book) (used book) r ≡ true) × (length r ≡ 512)) (is_right_of e) (used book)
    (all_both (λ r. used_sound (day_block book) (used book) r ≡ true) (λ r. length r ≡ 512) (used book) s.each (used_lengths book))))

named_once : (book : Bytes) → Sound book → (e : Bytes) (y : Block) → apart (both_named y) (own_rights (used book) e) ≡ true
unfolding own_rights both_named
named_once book s e y =
    apart_less (both_named y) same_right (Held (day_block book) e)
    (λ a b p q t. same_right_named a b (day_block book) p.whole q.whole p.kind q.kind p.right q.right (p.mine ∙ sym q.mine) y (and_left _ _ t) (and_right _ _ t))
    (keep (is_right_of e) (used book)) (own_held book s e) (apart_keep same_right (is_right_of e) (used book) s.rights)

-- ---- two rows of rights with the same blocks

has_over : (l r : List Block) → SameRights l r → (p : Block → Bool) → has p l ≡ true → has p r ≡ true
has_over l r s p t =
    let x = has_yes p l t in
    let y = has_yes (same x.0) r (sym (s x.0) ∙ find_has_other p (same x.0) l x.0 x.1 (same_refl x.0)) in
    find_has_other (same x.0) p r y.0 y.1 (ap p (sym (same_yes _ _ (find_passes _ r y.0 y.1))) ∙ find_passes p l x.0 x.1)

pub has_rights : (l r : List Block) → SameRights l r → (p : Block → Bool) → has p l ≡ has p r
has_rights l r s p = split (has p l) (λ t. t ∙ sym (has_over l r s p t)) (λ t. t ∙ sym (split (has p r) (λ u. clash (has_over r l (λ b. sym (s b)) p u) t) (λ u. u)))

module _ (l r : List Block) (s : SameRights l r) (y : Block) (once : apart (both_named y) r ≡ true) where
  found_there : (x : Block) → find (names y) l ≡ some x → find (names y) r ≡ some x
  unfolding both_named
  found_there x f =
      let z = has_yes (same x) r (sym (s x) ∙ find_has_other (names y) (same x) l x f (same_refl x)) in
      let i : x ≡ z.0 = same_yes _ _ (find_passes _ r z.0 z.1) in
      let n : names y x ≡ true = find_passes _ l x f in
      apart_find (both_named y) (names y) r once (place (same x) r) x (nth_place (same x) r ∙ z.1 ∙ ap some (sym i)) n (λ v t. and_both _ _ t n)

  right_there : right_for l y ≡ right_for r y
  unfolding right_for
  right_there = split (has (names y) l)
      (λ t. let x = has_yes (names y) l t in rw (x.1, found_there x.0 x.1))
      (λ t. rw (has_no_find (names y) l t, has_no_find (names y) r (sym (has_rights l r s (names y)) ∙ t)))

pub one_right : (book : Bytes) → Sound book → (e : Bytes) (l : List Block) → SameRights l (own_rights (used book) e) → (y : Block) → right_for l y ≡ right_for (own_rights (used book) e) y
one_right book s e l m y = right_there l (own_rights (used book) e) m y (named_once book s e y)

-- a right in a slot, held by e, is the one that each series which names it finds
pub right_named : (book : Bytes) → Sound book → (e : Bytes) (y : Block) (slot : ℕ) (r : Block) → nth (used book) slot ≡ some r → is_right_of e r ≡ true → names y r ≡ true
    → right_for (own_rights (used book) e) y ≡ r
unfolding right_for own_rights both_named
right_named book s e y slot r there mine n = rw (find_keep_and (names y) (is_right_of e) (used book))
    (ap (λ o. option_get_or o []) (apart_find both (λ x. is_right_of e x and names y x) (used book) once slot r there (and_both _ _ mine n) (λ v t. and_both _ _ t (and_both _ _ mine n))))
  where
    both : Block → Block → Bool
    both a b = (is_right_of e a and names y a) and (is_right_of e b and names y b)

    helds : All (λ x. is_right_of e x ≡ true → Held (day_block book) e x) (used book)
    helds = all_keep_back (Held (day_block book) e) (is_right_of e) (used book) (own_held book s e)

    once : apart both (used book) ≡ true
    once = apart_less both same_right (λ x. is_right_of e x ≡ true → Held (day_block book) e x)
        (λ a b p q t.
        let pa = p (and_left _ _ (and_left _ _ t)) in
        let pb = q (and_left _ _ (and_right _ _ t)) in
        same_right_named a b (day_block book) pa.whole pb.whole pa.kind pb.kind pa.right pb.right (pa.mine ∙ sym pb.mine) y (and_right _ _ (and_left _ _ t))
        (and_right _ _ (and_right _ _ t))) (used book) helds s.rights

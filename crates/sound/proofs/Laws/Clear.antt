-- A block clashes with none outside its group, so a search along the group tells whether it clashes with any.
use Rattle.std.specs.Prelude.{◌≡◌, ◌∷◌, ◌+◌, ◌%◌}
use Rattle.laws.specs.Kit.{refl, sym, ap, Bool, true, false, List, [], ℕ, arith, ◌and◌, neg, split, and_left, and_right, or_no, or_else, is_yes, is_same, is_equal}
use Rattle.laws.specs.Lists.{every}
use Rattle.paper.specs.Layout.{Block}
use Rattle.paper.specs.Sound.{same_sender, same_series, same_right}
use Rattle.facts.specs.Book.{sender_not_series, sender_not_right, right_not_series}
use Rattle.laws.specs.Loops.{place_from}
use lib.Dec.{eqb}
use Rattle.sound.specs.Used.{clashes}
use Rattle.sound.specs.Links.{group, in_group}
use Rattle.sound.proofs.Laws.Tags.{right_wide}

pub own_group : (a : Block) → in_group (group a) a ≡ true
unfolding in_group
own_group a = is_same (group a)

pub clash_group : (a b : Block) → clashes a b ≡ true → in_group (group a) b ≡ true
unfolding clashes same_sender same_series same_right in_group group
clash_group a b e =
    split (same_sender a b)
    (λ t.
    let u = and_left _ _ t in
    let m = and_left _ _ u in
    let n = and_right _ _ u in
    rw (sender_not_series a m, sender_not_series b n, sender_not_right a m, sender_not_right b n) (is_same 0))
    (λ t. split (same_series a b)
    (λ s. let u = and_left _ _ s in let v = and_left _ _ u in rw (and_left _ _ v, and_right _ _ v) (is_equal _ _ (sym (is_yes _ _ (and_right _ _ u)))))
    (λ s.
    let r = or_else _ _ e (or_no _ _ t s) in
    let u = and_left _ _ r in
    let m = and_left _ _ u in
    let n = and_right _ _ u in
    rw (right_not_series a m, right_not_series b n, m, n) (is_equal _ _ (ap (λ k. 1001 + k % 23) (sym (right_wide a b r))))))

-- none is found where none clashes
pub none_clashes : (q : Block → Bool) (t : ℕ) (l : List Block) → eqb (place_from t q l) 0 ≡ every (λ y. neg (q y)) l
unfolding place_from every ◌and◌ neg
none_clashes q t [] = refl
none_clashes q t (x ∷ xs) =
    split (q x)
    (λ u. rw u (let e : eqb (t + 1) 0 ≡ false = grind arith in e))
    (λ u. rw u (none_clashes q (t + 1) xs))

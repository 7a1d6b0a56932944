-- Each of some lists of numbers once: none twice, every one of them, and what one more at the end adds; sums by a name, each name once.
use Rattle.std.specs.Prelude.{◌≡◌, ◌∷◌, ◌++◌, ◌+◌}
use Rattle.laws.specs.Base.{refl, sym, ap, ◌∙◌, true, false, cond, List, [], ℕ, arith}
use Rattle.laws.specs.Tests.{◌and◌, ◌or◌, neg}
use Rattle.laws.specs.Tests.Laws.{split, and_both, and_no_right, neg_true, neg_false}
use Rattle.laws.specs.Lists.{same, has, apart, keep, total, of_found, All, once}
use Rattle.laws.specs.Lists.Same.{same_yes, same_equal, same_swap}
use Rattle.laws.specs.Lists.Each.{all_imply, all_each, all_keep, all_kept, all_every}
use Rattle.laws.specs.Lists.Search.{has_yes, has_agree, has_keep_and}
use Rattle.laws.specs.Lists.Apart.{apart_keep}
use Rattle.laws.specs.Lists.Count.{total_append, total_agree, total_one, total_swap}
use Rattle.laws.specs.Lists.Keep.{keep_append}

pub once_apart : (l : List (List ℕ)) → apart same (once l) ≡ true
unfolding once apart
once_apart [] = refl
once_apart (x ∷ xs) =
    and_both _ _ (all_every (λ y. neg (same x y)) _ (all_kept (λ y. neg (same x y)) (once xs))) (apart_keep same (λ y. neg (same x y)) (once xs) (once_apart xs))

pub all_once : (P : List ℕ → Type 0) (l : List (List ℕ)) → All P l → All P (once l)
unfolding once
all_once P [] h = tt
all_once P (x ∷ xs) h = (h.0, all_keep P (λ y. neg (same x y)) (once xs) (all_once P xs h.1))

pub once_has : (x : List ℕ) (l : List (List ℕ)) → has (same x) (once l) ≡ has (same x) l
unfolding once has ◌or◌
once_has x [] = refl
once_has x (z ∷ zs) = split (same x z)
    (λ t. rw t)
    (λ t. rw t (has_keep_and (same x) (λ y. neg (same z y)) (once zs) ∙ has_agree _ (same x) (once zs) (all_each _ (other t) (once zs)) ∙ once_has x zs))
  where
    other : same x z ≡ false → (y : List ℕ) → (neg (same z y) and same x y) ≡ same x y
    other t y = split (same x y)
        (λ u. let e : same z y ≡ false = ap (same z) (sym (same_yes x y u)) ∙ same_swap z x ∙ t in and_both _ _ (neg_true _ e) u ∙ sym u)
        (λ u. and_no_right (neg (same z y)) _ u ∙ sym u)

module _ (y : List ℕ) where
  pub once_more : (l : List (List ℕ)) → once (l ++ y ∷ []) ≡ once l ++ cond (has (same y) l) [] (y ∷ [])
  unfolding once keep has ◌or◌
  once_more [] = refl
  once_more (x ∷ xs) =
      ap (λ r. x ∷ r) (ap (keep (λ z. neg (same x z))) (once_more xs) ∙ keep_append (λ z. neg (same x z)) (once xs) (cond (has (same y) xs) [] (y ∷ []))
      ∙ ap (λ r. keep (λ z. neg (same x z)) (once xs) ++ r) last)
    where
      last : keep (λ z. neg (same x z)) (cond (has (same y) xs) [] (y ∷ [])) ≡ cond (same y x or has (same y) xs) [] (y ∷ [])
      last = split (same y x)
          (λ t. split (has (same y) xs) (λ u. rw (t, u)) (λ u. rw (t, u, neg_false _ (same_swap x y ∙ t))))
          (λ t. split (has (same y) xs) (λ u. rw (t, u)) (λ u. rw (t, u, neg_true _ (same_swap x y ∙ t))))

  pub total_once_more : (g : List ℕ → ℕ) (l : List (List ℕ)) → total g (once (l ++ y ∷ [])) ≡ total g (once l) + cond (has (same y) l) 0 (g y)
  unfolding total
  total_once_more g l = ap (total g) (once_more l) ∙ total_append g (once l) (cond (has (same y) l) [] (y ∷ []))
      ∙ ap (λ n. total g (once l) + n) (split (has (same y) l) (λ u. rw u) (λ u. rw u (omega arith)))

-- the sums by name, over names of which none stands twice, are together the sum of all, where each has its name among these
pub total_by_name : {A : Type 0} (name : A → List ℕ) (g : A → ℕ) (names : List (List ℕ)) (l : List A) → apart same names ≡ true
    → All (λ x. has (same (name x)) names ≡ true) l → total (λ e. total (λ x. cond (same (name x) e) (g x) 0) l) names ≡ total g l
unfolding of_found
total_by_name {A} name g names l a h = total_swap (λ e x. cond (same (name x) e) (g x) 0) names l ∙ total_agree _ g l (all_imply _ _ one l h)
  where
    one : (x : A) → has (same (name x)) names ≡ true → total (λ e. cond (same (name x) e) (g x) 0) names ≡ g x
    one x t =
        total_one same (λ e. Unit {0}) (same (name x)) (λ e. g x) (λ u v _ _ p q. same_equal u v (sym (same_yes _ u p) ∙ same_yes _ v q)) names (all_each (λ e. Unit {0}) (λ e. tt) names) a
        ∙ rw (has_yes (same (name x)) names t).1

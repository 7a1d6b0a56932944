-- Tests of lists, made of two tests or of blocks.
use Rattle.std.specs.Prelude.{◌≡◌, Bool, true, false}
use Rattle.std.proofs.Math.Path.{refl, sym, ap, ap₂}
use Rattle.std.proofs.Common.{◌∙◌}
use mathlib.Core.List.{List, [], ◌∷◌}
use Rattle.laws.specs.Tests.{◌and◌, ◌or◌, neg}
use Rattle.laws.specs.Tests.Laws.{neg_both}
use Rattle.laws.specs.Lists.{every, apart}
use Rattle.laws.specs.Lists.Each.{all_each, every_append, every_agree}
use Rattle.laws.specs.Cut.{join}

and_swap : (a b : Bool) → (a and b) ≡ (b and a)
unfolding ◌and◌
and_swap true true = refl
and_swap true false = refl
and_swap false true = refl
and_swap false false = refl

and_mix : (a b c d : Bool) → ((a and b) and (c and d)) ≡ ((a and c) and (b and d))
unfolding ◌and◌
and_mix true true c d = refl
and_mix true false true d = refl
and_mix true false false d = refl
and_mix false b c d = refl

module _ {A : Type 0} where
  pub every_both : (p q : A → Bool) (l : List A) → every (λ x. p x and q x) l ≡ (every p l and every q l)
  unfolding every ◌and◌
  every_both p q [] = refl
  every_both p q (x ∷ xs) = rw (every_both p q xs) (and_mix (p x) (q x) (every p xs) (every q xs))

  pub apart_either : (c e : A → A → Bool) (l : List A) → apart (λ x y. c x y or e x y) l ≡ (apart c l and apart e l)
  unfolding apart ◌and◌
  apart_either c e [] = refl
  apart_either c e (x ∷ xs) =
      ap₂ (λ s t. s and t)
      (every_agree _ _ xs (all_each (λ y. neg (c x y or e x y) ≡ (neg (c x y) and neg (e x y))) (λ y. sym (neg_both (e x y) (c x y)) ∙ and_swap (neg (e x y)) (neg (c x y))) xs)
      ∙ every_both (λ y. neg (c x y)) (λ y. neg (e x y)) xs)
      (apart_either c e xs)
      ∙ and_mix (every (λ y. neg (c x y)) xs) (every (λ y. neg (e x y)) xs) (apart c xs) (apart e xs)

  pub every_join : (p : A → Bool) (l : List (List A)) → every p (join l) ≡ every (every p) l
  unfolding join every
  every_join p [] = refl
  every_join p (x ∷ xs) = every_append p x (join xs) ∙ ap (λ t. every p x and t) (every_join p xs)

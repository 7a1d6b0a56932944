-- Blocks laid one after another: what is laid in two turns is laid in one, and the blocks before are as they were.
use Rattle.std.specs.Prelude.{◌≡◌, ◌∷◌, ◌++◌, ◌+◌, ◌≤◌, ◌<◌}
use Rattle.laws.specs.Kit.{refl, sym, ap, ap₂, ◌∙◌, List, [], append_assoc, append-nil, ℕ, arith, length, take, set, length-append, length-take-le}
use Rattle.laws.specs.InPlace.{over, over_none, over_more, over_take, over_over}
use Rattle.paper.specs.Layout.{Block}
use Rattle.accept.specs.Steps.{Laid}

module _ (s : ℕ) (l : List Block) where
  pub laid_none : s ≤ length l → Laid s [] l l s
  laid_none h = record { list = over_none l s h ∙ ap (λ p. over p l) (sym (append-nil (take s l))); end = omega arith }

  pub laid_one : (y : Block) {r : List Block} → s < length l → r ≡ set l s y → Laid s (y ∷ []) l r (s + 1)
  laid_one y h q = record {
    list = over_more (take s l) l l _ s y (sym (length-take-le s l (omega arith))) h (over_none l s (omega arith)) q;
    end = refl;
  }

  module _ {a r : List Block} {e : ℕ} (h : s ≤ length l) (i : Laid s a l r e) where
    place_is : e ≡ length (take s l ++ a)
    place_is = let n : e ≡ s + length a = i.end in omega (arith, length-append (take s l) a, length-take-le s l h)

    pub laid_then : {b q : List Block} {f : ℕ} → Laid e b r q f → Laid s (a ++ b) l q f
    laid_then {b} {q} {f} j = record {
      list =
          let t : take e r ≡ take s l ++ a = ap (take e) i.list ∙ over_take (take s l ++ a) l e place_is in
          j.list ∙ ap₂ (λ x y. over (x ++ b) y) t i.list ∙ over_over (take s l ++ a) b l ∙ ap (λ x. over x l) (append_assoc (take s l) a b);
      end = let n : e ≡ s + length a = i.end in let m : f ≡ e + length b = j.end in omega (arith, length-append a b);
    }

-- The block at a place that a search gave is what the search finds; at place 0 there is none.
use Rattle.std.specs.Prelude.{◌≡◌, ◌-◌}
use Rattle.laws.specs.Kit.{refl, sym, ap, ◌∙◌, Bool, none, some, option_get_or, List, [], ℕ, zero, suc, arith, get_or}
use Rattle.laws.specs.Lists.{find, place}
use Rattle.laws.specs.Lists.Search.{has_no_find, place_none, place_find}
use Rattle.paper.specs.Layout.{Block}
use Rattle.paper.specs.Book.{numbered}
use Rattle.facts.specs.Book.{numbered_found}

numbered_some : (l : List Block) (k : ℕ) → (k ≡ 0 → ⊥) → numbered l k ≡ get_or l (k - 1) []
unfolding numbered
numbered_some l zero n = absurd (n refl)
numbered_some l (suc k) n = let z : suc k - 1 ≡ k = omega arith in rw z

module _ (p : Block → Bool) (l : List Block) (t : ℕ) (e : t ≡ place p l) where
  pub found_none : t ≡ 0 → find p l ≡ none
  found_none z = has_no_find p l (place_none p l t e z)

  pub found_some : (t ≡ 0 → ⊥) → find p l ≡ some (numbered l t)
  found_some z = place_find p l t e [] z ∙ ap some (sym (numbered_some l t z))

  pub found : {x : Block} → x ≡ numbered l t → x ≡ option_get_or (find p l) []
  found q = q ∙ ap (numbered l) e ∙ numbered_found p l

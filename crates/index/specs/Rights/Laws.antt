-- A right stands in the bucket of its agreement, which a series on it names.
use Rattle.std.specs.Prelude.{◌≡◌, true, false, None, Some, List}
use Rattle.std.proofs.Common.{sym, ap}
use Rattle.laws.specs.Tests.{◌and◌}
use Rattle.laws.specs.Tests.Laws.{is_equal, and_left, and_right, and_both, and_no_left, and_no_right}
use Rattle.laws.specs.Lists.{place}
use Rattle.laws.specs.Lists.Same.{same_yes}
use Rattle.laws.specs.Lists.Each.{all_each}
use Rattle.laws.specs.Lists.Search.{has_no_place, all_has_no}
use Rattle.paper.specs.Layout.{Bytes, Block, agreement}
use Rattle.paper.specs.Book.{is_right, with_capacity, is_right_of}
use Rattle.paper.specs.Rules.{names}
use Rattle.index.specs.Linked.{bucket, Told}
use Rattle.index.specs.Rights.{right_in, is_right_for}

module _ (e : Bytes) (x : Block) where
  pub not_right : is_right x ≡ false → is_right_of e x ≡ false
  unfolding is_right_of
  not_right q = and_no_left _ _ q

  pub right_out : is_right_of e x ≡ false → Told (right_in e) x None
  unfolding right_in ◌and◌
  right_out q g = rw q

  pub right_told : is_right_of e x ≡ true → Told (right_in e) x (Some (bucket (agreement x)))
  unfolding right_in ◌and◌
  right_told q g = rw q

names_agreement : (y r : Block) → names y r ≡ true → agreement y ≡ agreement r
unfolding names
names_agreement y r t = same_yes _ _ (and_right _ _ t)

-- what is sought stands in the bucket of the agreement
pub right_linked : (e : Bytes) (y r : Block) → is_right_for e y r ≡ true → right_in e (bucket (agreement y)) r ≡ true
unfolding is_right_for right_in
right_linked e y r t = and_both _ _ (and_left _ _ t) (is_equal _ _ (ap bucket (sym (names_agreement y r (and_right _ _ (and_right _ _ t))))))

pub no_right : (e : Bytes) (y : Block) (us : List Block) → with_capacity y ≡ false → place (is_right_for e y) us ≡ 0
unfolding is_right_for
no_right e y us t = has_no_place (is_right_for e y) us (all_has_no _ us (all_each _ (λ r. and_no_right _ _ (and_no_left _ _ t)) us))

-- The schedules of an accepted message stay within their rights: each series on a right was judged with those before it, so that the sum over all of them is at or below the limit; and no sum that
-- rule 19 compares is above twice the largest quantity.
use Rattle.std.specs.Prelude.{◌≡◌, ◌∷◌, ◌++◌, ◌+◌, ◌≤◌, ◌<◌}
use Rattle.laws.specs.Base.{refl, sym, ap, ◌∙◌, Bool, true, false, cond, Option, some, option_get_or, List, [], append_assoc, append-nil, ℕ, arith}
use Rattle.laws.specs.Tests.{◌and◌}
use Rattle.laws.specs.Tests.Laws.{split, and_left, and_right, and_both}
use Rattle.laws.specs.Lists.{find, has, nth, keep, total, All}
use Rattle.laws.specs.Lists.Each.{all_imply, all_nth}
use Rattle.laws.specs.Lists.Count.{total_append}
use Rattle.paper.specs.Layout.{Bytes, Block, n_of, sender, quantity, limit}
use Rattle.paper.specs.Book.{day_block, used, is_right, is_right_of, with_capacity, own_rights}
use Rattle.paper.specs.Sound.{right_sound, used_sound}
use Rattle.paper.specs.Message.{head_of, series_of}
use Rattle.paper.specs.Rules.{names, right_for, sum_on}
use Rattle.facts.specs.Quantities.{quantity_within}
use Rattle.facts.specs.Sound.{Sound, used_right}
use Rattle.facts.specs.Verdict.{Limited, AllLimited, Accepts}
use Rattle.promises.specs.Laws.OwnRights.{right_named}

-- ---- one series more

sum_more : (r : Block) (seen : List Block) (y : Block) (k : ℕ) → sum_on r (seen ++ y ∷ []) k ≡ sum_on r seen k + cond (with_capacity y and names y r) (quantity y k) 0
unfolding sum_on total
sum_more r seen y k = total_append (λ z. cond (with_capacity z and names z r) (quantity z k) 0) seen (y ∷ []) ∙ omega arith

-- r is the right that every series on it names
module _ (n : ℕ) (rights : List Block) (r : Block) (own : (y : Block) → names y r ≡ true → right_for rights y ≡ r) (k : ℕ) (small : k < 100) (inside : k < n) where
  within : (seen l : List Block) → sum_on r seen k ≤ limit r k → AllLimited n rights seen l → sum_on r (seen ++ l) k ≤ limit r k
  unfolding AllLimited Limited
  within seen [] h a = rw (append-nil seen) h
  within seen (y ∷ ys) h a =
      rw (sym (append_assoc seen (y ∷ []) ys))
      (within (seen ++ y ∷ []) ys (rw (sum_more r seen y k) (split (with_capacity y and names y r)
      (λ t. rw t (rw (own y (and_right _ _ t)) at ((a.0 (and_left _ _ t)).1 k small inside)))
      (λ t. rw t (omega arith)))) a.1)

module _ (book message : Bytes) (a : Accepts book message) where
  abbrev rights : List Block
  rights = own_rights (used book) (sender (head_of message))

  -- of each right r that the sender holds
  pub sums_within : (slot : ℕ) (r : Block) → nth (used book) slot ≡ some r → is_right_of (sender (head_of message)) r ≡ true → (k : ℕ) → k < 100 → k < n_of (day_block book)
      → sum_on r (series_of message) k ≤ limit r k
  unfolding sum_on total
  sums_within slot r there mine k small inside =
      within (n_of (day_block book)) rights r (λ y n. right_named book a.was (sender (head_of message)) y slot r there mine n) k small inside [] (series_of message) (omega arith) a.limited

-- ---- the sum that rule 19 compares: of the series seen, which have passed, and of one that has passed rules 11 to 13

pub sum_small : (book : Bytes) → Sound book → (slot : ℕ) (r : Block) → nth (used book) slot ≡ some r → is_right r ≡ true → (seen : List Block) (y : Block) (k : ℕ) → k < n_of (day_block book)
    → sum_on r seen k ≤ limit r k → quantity y k ≤ 9999999 → sum_on r seen k + quantity y k ≤ 19999998
unfolding limit right_sound
sum_small book s slot r there right seen y k inside h q =
    let m : quantity r k ≤ 9999999 = quantity_within (n_of (day_block book)) r (and_right _ _ (used_right _ _ r
    (all_nth (λ x. used_sound (day_block book) (used book) x ≡ true) (used book) slot r s.each there) right)) k inside in
    omega arith

-- One look at a slot, and the pass over all of them, as the code makes them: what is found stands in a row that has room for 200 series.
use Rattle.std.specs.Prelude.{◌≡◌, ◌+◌, ◌-◌, ◌≤◌, ◌<◌}
use Rattle.laws.specs.Kit.{sym, ap, ◌∙◌, true, false, List, [], ℕ, arith, length, take, get_or, set, set-get_or, get_or-set_same, get_or-set_other, length-set, length-take-le, is, split, is_yes, is_no, is_equal, is_other}
use native.Mathlib.Decide.{ℕ_discrete}
use Rattle.laws.specs.Lists.{place}
use Rattle.laws.specs.Lists.Each.{all_each, every_all, all_get_or_inside}
use Rattle.laws.specs.Lists.Search.{all_has_no, has_no_place, place_length}
use Rattle.paper.specs.Layout.{Block, zeros, senders_slot}
use Rattle.paper.specs.Book.{is_series, is_trade, is_series_of, trade, trade_is}
use Rattle.paper.specs.Looks.{look, found, visited}
use Rattle.facts.specs.Looks.{found_to, found_none, found_more, found_all, none_found_row, look_into_row, look_no_series, look_own, look_no_trade, visited_length}
use Rattle.facts.specs.Pairs.{trade_none}
use Rattle.facts.specs.Partners.{Homes, homes_none, homes_other, homes_no_trade, homes_own}
use Rattle.index.specs.declared.By.TheVariants.{Trade}
use Rattle.index.specs.Linked.{alike, own_with}
use Rattle.accept.specs.Steps.{Sent, TradeNumbers, first_kept, home_noted}
use Rattle.accept.proofs.Laws.Renewing.{number_found}

-- ---- a row of slots

module _ (slot j : ℕ) (row : List ℕ) where
  pub first_new : get_or row j 0 ≡ 0 → set row j slot ≡ first_kept slot j row
  unfolding first_kept
  first_new z = rw (is_equal _ _ z)

  pub first_stays : (get_or row j 0 ≡ 0 → ⊥) → row ≡ first_kept slot j row
  unfolding first_kept
  first_stays n = rw (is_other _ _ n) (sym (set-get_or row j 0))

  pub first_length : length (first_kept slot j row) ≡ length row
  unfolding first_kept
  first_length = length-set row j _

module _ (slot : ℕ) (block : Block) (own number : ℕ) (homes : List ℕ) where
  pub noted_none : number ≡ 0 → homes ≡ home_noted slot block own number homes
  unfolding home_noted
  noted_none z = rw (is_equal _ _ z)

  module _ (n : number ≡ 0 → ⊥) where
    pub noted_own : is_series_of own block ≡ true → first_kept slot (number - 1) homes ≡ home_noted slot block own number homes
    unfolding home_noted
    noted_own t = rw (is_other _ _ n, t)

    pub noted_other : is_series_of own block ≡ false → homes ≡ home_noted slot block own number homes
    unfolding home_noted
    noted_other t = rw (is_other _ _ n, t)

  noted_length : length (home_noted slot block own number homes) ≡ length homes
  unfolding home_noted
  noted_length = split (is number 0) (λ t. rw t) (λ t. split (is_series_of own block) (λ u. rw (t, u) (first_length slot (number - 1) homes)) (λ u. rw (t, u)))

-- ---- one look

module _ (series : List Block) (s : Sent series) (block : Block) where
  -- the number is sought along the message's links, but for an external schedule
  pub number_sought : {number : ℕ} → number ≡ place (own_with 0 Trade block) series → number ≡ place (trade_is (trade block)) series
  unfolding alike
  number_sought e = e ∙ number_found Trade block series s.slots

  pub number_none : is_trade block ≡ false → 0 ≡ place (trade_is (trade block)) series
  number_none i = sym (has_no_place _ series (all_has_no _ series (all_each (λ y. trade_is (trade block) y ≡ false) (λ y. trade_none block y i) series)))

  module _ (number : ℕ) (e : number ≡ place (trade_is (trade block)) series) where
    pub number_few : number ≤ 200
    number_few = let m : length series ≤ 200 = s.few in omega (arith, place_length (trade_is (trade block)) series)

    module _ (slot own : ℕ) (row : List ℕ) (room : length row ≡ 200) where
      sized : length (take (length series) row) ≡ length series
      sized = let m : length series ≤ 200 = s.few in length-take-le (length series) row (omega arith)

      pub looked_absent : number ≡ 0 → take (length series) row ≡ look slot block series own (take (length series) row)
      looked_absent z = sym (look_no_trade slot block own series _ sized number e z)

      pub looked_no_series : is_series block ≡ false → take (length series) row ≡ look slot block series own (take (length series) row)
      looked_no_series t = sym (look_no_series slot block own series _ sized t)

      pub looked_own : senders_slot block ≡ own → take (length series) row ≡ look slot block series own (take (length series) row)
      looked_own o = sym (look_own slot block own series _ sized o)

      pub looked_other : (number ≡ 0 → ⊥) → is_series block ≡ true → (senders_slot block ≡ own → ⊥)
          → take (length series) (first_kept slot (number - 1) row) ≡ look slot block series own (take (length series) row)
      unfolding first_kept
      looked_other n t o =
          let m : length series ≤ 200 = s.few in
          look_into_row series row (omega arith) slot block own (number - 1) s.distinct (sym e ∙ omega (arith, n)) t o

-- ---- the pass: the first i slots are looked at

pub record LookedTo (own : ℕ) (l series : List Block) (i : ℕ) (partners homes numbers : List ℕ) : Type 0 where
  pub partners_are_found : take (length series) partners ≡ found_to l series own i
  pub homes_found : Homes own l series i homes
  pub numbers_are_told : (k : ℕ) → k < i → get_or numbers k 0 ≡ place (trade_is (trade (get_or l k []))) series
  pub partners_room : length partners ≡ 200
  pub homes_room : length homes ≡ 200
  pub numbers_room : length numbers ≡ 1000

module _ (own : ℕ) (l series : List Block) (s : Sent series) where
  pub looked_none : (partners homes numbers : List ℕ) → zeros partners ≡ true → length partners ≡ 200 → zeros homes ≡ true → length homes ≡ 200 → length numbers ≡ 1000
      → LookedTo own l series 0 partners homes numbers
  unfolding zeros
  looked_none partners homes numbers z r y q w =
      let m : length series ≤ 200 = s.few in
      record {
        partners_are_found = none_found_row series partners (omega arith) z ∙ sym (found_none l series own);
        homes_found = homes_none own l series homes (λ k h. is_yes _ _ (all_get_or_inside (λ x. is x 0 ≡ true) homes k 0 (omega arith) (every_all _ homes y)));
        numbers_are_told = λ k h. absurd (omega arith);
        partners_room = r;
        homes_room = q;
        numbers_room = w;
      }

  module _ (i : ℕ) (h : i < length l) (partners homes numbers : List ℕ) (a : LookedTo own l series i partners homes numbers) (block : Block) (b : block ≡ get_or l i []) (number : ℕ)
      (e : number ≡ place (trade_is (trade block)) series) where
    noted : Homes own l series (i + 1) (home_noted (i + 1) (get_or l i []) own number homes)
    unfolding home_noted first_kept
    noted =
        let n : number ≡ place (trade_is (trade (get_or l i []))) series = rw b at e in
        let m : length series ≤ 200 = s.few in
        let r : length homes ≡ 200 = a.homes_room in
        split (is number 0)
        (λ t. rw t (homes_no_trade own l series homes i h a.homes_found number n (is_yes _ _ t)))
        (λ t. split (is_series_of own (get_or l i []))
        (λ u. rw (t, u) (homes_own own l series homes i h a.homes_found s.distinct (omega arith) u (number - 1) (sym n ∙ omega (arith, is_no _ _ t))))
        (λ u. rw (t, u) (homes_other own l series homes i h a.homes_found u)))

    pub looked_more : (partners' homes' : List ℕ) → length partners' ≡ 200 → take (length series) partners' ≡ look (i + 1) block series own (take (length series) partners)
        → homes' ≡ home_noted (i + 1) block own number homes → i < 1000 → LookedTo own l series (i + 1) partners' homes' (set numbers i number)
    looked_more partners' homes' z f g k = record {
      partners_are_found =
          f ∙ ap (λ x. look (i + 1) x series own (take (length series) partners)) b
          ∙ ap (look (i + 1) (get_or l i []) series own) a.partners_are_found ∙ sym (found_more l series own i);
      homes_found = rw (g, b) noted;
      numbers_are_told = λ j q. elim (ℕ_discrete j i) [
        | yes r ↦ rw r (get_or-set_same numbers i number 0 (omega (arith, a.numbers_room)) ∙ rw b at e)
        | no r ↦ get_or-set_other numbers i j number 0 r ∙ a.numbers_are_told j (omega (arith, r))
      ];
      partners_room = z;
      homes_room = ap length g ∙ noted_length (i + 1) block own number homes ∙ a.homes_room;
      numbers_room = length-set numbers i number ∙ a.numbers_room;
    }

  module _ (i : ℕ) (all : i ≡ length l) (partners homes numbers : List ℕ) (a : LookedTo own l series i partners homes numbers) where
    pub looked_all : (take (length series) partners ≡ found l series own) × Homes own l series (length l) homes × TradeNumbers l series numbers × (i ≡ length (visited l))
    unfolding TradeNumbers
    looked_all = (
      a.partners_are_found ∙ ap (found_to l series own) all ∙ found_all l series own,
      rw all at a.homes_found,
      λ k h. a.numbers_are_told k (omega arith),
      all ∙ sym (visited_length l),
    )

-- True marks stay true: a mark is worked out anew for every series of the sender and for every trade with a pair of the sender's trades; any other series has neither
-- that pair nor a counterpart among the blocks that change, so its mark is worked out from the same blocks as before.
use Rattle.std.specs.Prelude.{◌≡◌}
use Rattle.laws.specs.Base.{refl, sym, ap, ◌∙◌, true, false, Option, none, some, option_map, List, map, ℕ, length}
use Rattle.laws.specs.Tests.Laws.{split, clash, and_both, and_no, or_right, or_yes_left, is_equal}
use Rattle.laws.specs.Lists.{find, place, has, All}
use Rattle.laws.specs.Lists.Each.{all_imply, all_both, all_find, all_map}
use Rattle.laws.specs.Lists.Search.{has_no_all, all_has_no, has_append_left, has_append_right, find_passes, find_append_only, place_append_only, find_map, place_map_each, has_map_each}
use Rattle.paper.specs.Layout.{Bytes, Block, sender, senders_slot, mark, with_senders_slot}
use Rattle.paper.specs.Book.{is_series, trade, is_series_of, is_trade_of}
use Rattle.paper.specs.Marks.{is_counterpart, counterpart, counterpart_slot, mark_in}
use Rattle.paper.specs.Acceptance.{slot_for, sender_kept, renewed, fresh, placed, touched, remarked, used_after}
use Rattle.facts.specs.Layout.{with_senders_slot_length, mark_with_mark}
use Rattle.facts.specs.Book.{series_of_slot, series_of_yes}
use Rattle.facts.specs.Pairs.{trade_of_yes, trade_of_kept, counterpart_series, counterpart_trade, counterpart_kept}
use Rattle.facts.specs.Remarking.{mark_in_length, remarked_touched, remarked_untouched, series_remarked, mark_in_remarked_list, mark_in_remarked}
use Rattle.facts.specs.Renewal.{Shape, sender_kept_no_series, series_renewed, renewed_keeps, renewed_length, renewed_others_series, adopted, by_origin, fresh_slots}

unfoldable pub MarksTrue : ℕ → List Block → Type 0
MarksTrue n l = All (λ x. is_series x ≡ true → mark x ≡ mark_in n l x) l

pub own_touched : (slot : ℕ) (l : List Block) (y : Block) → is_series y ≡ true → senders_slot y ≡ slot → touched slot l y ≡ true
unfolding touched
own_touched slot l y s e = and_both _ _ s (or_yes_left _ _ (is_equal _ _ e))

untouched_no_trade : (slot : ℕ) (l : List Block) (y : Block) → is_series y ≡ true → touched slot l y ≡ false → has (is_trade_of slot (trade y)) l ≡ false
unfolding touched
untouched_no_trade slot l y s u = or_right _ _ (and_no _ _ u s)

-- a mark is true after it was put right, or if it was true and is not touched
mark_remarked : (n slot : ℕ) (l : List Block) (y : Block) → length y ≡ 512 → (touched slot l y ≡ false → mark y ≡ mark_in n l y)
    → mark (remarked n slot l y) ≡ mark_in n (map (remarked n slot l) l) (remarked n slot l y)
mark_remarked n slot l y s h =
    split (touched slot l y)
    (λ t. rw (remarked_touched n slot l y t) (mark_with_mark (mark_in n l y) y (mark_in_length n l y) s))
    (λ t. rw (remarked_untouched n slot l y t) (h t))
    ∙ sym (mark_in_remarked_list n slot l l (remarked n slot l y) ∙ mark_in_remarked n slot l l y)

module _ (ours : Bytes) (us : List Block) (h : Block) (series : List Block) (c : Shape us h series) where
  abbrev slot : ℕ
  slot = slot_for us (sender h)

  abbrev again : Block → Block
  again = renewed ours (slot_for us (sender h)) h series

  abbrev now : List Block
  now = placed ours us h series

  -- the sender has no trade between the parties k: then no search for their counterparts sees what changed
  module _ (k : Option Bytes) (e : has (is_trade_of (slot_for us (sender h)) k) (placed ours us h series) ≡ false) where
    fresh_no_counterpart : (o : ℕ) → has (is_counterpart o k) (fresh ours us h series) ≡ false
    unfolding placed
    fresh_no_counterpart o =
        all_has_no (is_counterpart o k) (fresh ours us h series)
        (all_imply (λ z. (is_series z ≡ true → senders_slot z ≡ slot) × (is_trade_of slot k z ≡ false)) (λ z. is_counterpart o k z ≡ false)
        (λ z q. split (is_counterpart o k z)
        (λ t. clash (trade_of_yes slot k z (series_of_yes slot z (counterpart_series o k z t) (q.0 (counterpart_series o k z t))) (counterpart_trade o k z t)) q.1) (λ t. t))
        (fresh ours us h series)
        (all_both (λ z. is_series z ≡ true → senders_slot z ≡ slot) (λ z. is_trade_of slot k z ≡ false) (fresh ours us h series) (fresh_slots ours us h series c)
        (has_no_all (is_trade_of slot k) (fresh ours us h series) (has_append_right (is_trade_of slot k) (map again us) (fresh ours us h series) e))))

    stored_no_trade : has (is_trade_of slot k) us ≡ false
    unfolding placed
    stored_no_trade =
        sym (has_map_each again (is_trade_of slot k) (is_trade_of slot k) (trade_of_kept again (renewed_keeps ours us h series c) slot k) us)
        ∙ has_append_left (is_trade_of slot k) (map again us) (fresh ours us h series) e

    find_counterpart_other : (o : ℕ) → find (is_counterpart o k) now ≡ find (is_counterpart o k) us
    unfolding placed
    find_counterpart_other o =
        find_append_only (is_counterpart o k) (map again us) (fresh ours us h series) (fresh_no_counterpart o)
        ∙ find_map again (is_counterpart o k) (is_counterpart o k) (counterpart_kept again (renewed_keeps ours us h series c) o k) us
        ∙ stays (find (is_counterpart o k) us) refl
      where
        stays : (r : Option Block) → find (is_counterpart o k) us ≡ r → option_map again r ≡ r
        stays none f = refl
        stays (some x) f =
            let t : is_counterpart o k x ≡ true = find_passes _ us x f in
            let s : is_series x ≡ true = counterpart_series o k x t in
            let m : is_trade_of slot k x ≡ false = all_find (λ z. is_trade_of slot k z ≡ false) (is_counterpart o k) us x
            (has_no_all (is_trade_of slot k) us stored_no_trade) f in
            ap some (renewed_others_series ours us h series c x s
            (split (is_series_of slot x) (λ u. clash (trade_of_yes slot k x u (counterpart_trade o k x t)) m) (λ u. u)))

    place_counterpart_other : (o : ℕ) → place (is_counterpart o k) now ≡ place (is_counterpart o k) us
    unfolding placed
    place_counterpart_other o =
        place_append_only (is_counterpart o k) (map again us) (fresh ours us h series) (fresh_no_counterpart o)
        ∙ place_map_each again (is_counterpart o k) (is_counterpart o k) (counterpart_kept again (renewed_keeps ours us h series c) o k) us

  mark_in_other : (n : ℕ) (y : Block) → is_series y ≡ true → touched slot now y ≡ false → mark_in n now y ≡ mark_in n us y
  unfolding mark_in counterpart counterpart_slot
  mark_in_other n y s u =
      let e : has (is_trade_of slot (trade y)) now ≡ false = untouched_no_trade slot now y s u in
      rw (find_counterpart_other (trade y) e (senders_slot y), place_counterpart_other (trade y) e (senders_slot y))

  pub marks_kept : (n : ℕ) → All (λ x. length x ≡ 512) us → MarksTrue n us → MarksTrue n (used_after n ours us h series)
  unfolding MarksTrue used_after
  marks_kept n l t =
      all_map (λ x. is_series x ≡ true → mark x ≡ mark_in n (map put now) x) put now
      (by_origin ours us h series c P (λ x. (length x ≡ 512) × (is_series x ≡ true → mark x ≡ mark_in n us x)) (λ y. length y ≡ 512)
      (all_both (λ x. length x ≡ 512) (λ x. is_series x ≡ true → mark x ≡ mark_in n us x) us l t) c.series_whole
      old (λ s. clash (sym (series_remarked n slot now (sender_kept ours h series)) ∙ s) (sender_kept_no_series ours us h series c)) young)
    where
      put : Block → Block
      put = remarked n slot now

      P : Block → Type 0
      P y = is_series (put y) ≡ true → mark (put y) ≡ mark_in n (map put now) (put y)

      young : (y : Block) → length y ≡ 512 → P (with_senders_slot slot y)
      young y l s =
          mark_remarked n slot now (with_senders_slot slot y) (with_senders_slot_length slot y ∙ l)
          (λ u. clash (own_touched slot now (with_senders_slot slot y) (sym (series_remarked n slot now (with_senders_slot slot y)) ∙ s) (adopted ours us h series c y l)) u)

      old : (x : Block) → (length x ≡ 512) × (is_series x ≡ true → mark x ≡ mark_in n us x) → P (again x)
      old x q s =
          let s' : is_series (again x) ≡ true = sym (series_remarked n slot now (again x)) ∙ s in
          let s'' : is_series x ≡ true = sym (series_renewed ours us h series c x) ∙ s' in
          mark_remarked n slot now (again x) (renewed_length ours us h series c x q.0) (λ u.
          let v : is_series_of slot x ≡ false = split (is_series_of slot x)
          (λ v. clash (own_touched slot now (again x) s' ((renewed_keeps ours us h series c).slot x s'' ∙ series_of_slot slot x v)) u) (λ v. v) in
          let i : again x ≡ x = renewed_others_series ours us h series c x s'' v in
          rw i (q.1 s'' ∙ sym (mark_in_other n x s'' (rw i at u))))

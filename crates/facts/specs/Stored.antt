-- After an acceptance the sender holds what the message has, under every test that the key decides, and everyone else what they held: a stored series of the sender is replaced
-- by the message's with its key, a new one is added, and none is absent from the message.
use Rattle.std.specs.Prelude.{◌≡◌, ◌∷◌}
use Rattle.laws.specs.Base.{refl, sym, ap, ◌∙◌, Bool, true, false, cond, Option, none, some, option_map, List, [], map, ℕ, length}
use Rattle.laws.specs.Tests.{is}
use Rattle.laws.specs.Tests.Laws.{split, clash, neg_true, is_no}
use Rattle.laws.specs.Lists.{same, find, has, keep, All}
use Rattle.laws.specs.Lists.Same.{same_yes}
use Rattle.laws.specs.Lists.Each.{all_imply, all_both, all_each, all_keep, all_keep_back, all_find}
use Rattle.laws.specs.Lists.Search.{has_yes, has_no_all, all_has_no, has_sieve, find_agree, find_passes, find_has_other, find_append_first, find_append_second, find_append_only, find_keep, has_map_each, find_map_all, find_map}
use Rattle.paper.specs.Layout.{Bytes, Block, sender, senders_slot, key, with_senders_slot}
use Rattle.paper.specs.Book.{is_series, key_is, trade_is, is_sender_block_of, slot_of, is_series_of, own_series}
use Rattle.paper.specs.Rules.{is_new}
use Rattle.paper.specs.Acceptance.{slot_for, sender_kept, replaced, renewed, fresh, placed, remarked, used_after}
use Rattle.facts.specs.Layout.{key_with_senders_slot}
use Rattle.facts.specs.Keys.{key_is_yes}
use Rattle.facts.specs.Book.{series_of_slot, series_of_yes, series_of_other}
use Rattle.facts.specs.Pairs.{ByKey, of_slot, of_slot_own, of_slot_test, of_slot_series, of_slot_slot, of_slot_where_own, of_slot_other, view_found, view_held, map_view, of_slot_kept, TradesIn, trade_as_key}
use Rattle.facts.specs.Renewal.{Shape, series_with_senders_slot, sender_kept_no_series, renewed_own, renewed_keeps, renewed_others_series, adopted, fresh_slots}
use Rattle.facts.specs.Remarking.{of_slot_found_remarked}
use Rattle.facts.specs.Senders.{slots_differ, slot_after_own, slot_after_other}

-- the series of the slot that a sender has or gets are its own
abbrev pub OwnThere : List Block → Bytes → Type 0
OwnThere us e = keep (is_series_of (slot_for us e)) us ≡ own_series us e

own_has : (us : List Block) (e : Bytes) → OwnThere us e → (q : Block → Bool) → has q (own_series us e) ≡ has (of_slot (slot_for us e) q) us
own_has us e w q =
    ap (has q) (sym w)
    ∙ has_sieve q (is_series_of (slot_for us e)) (of_slot (slot_for us e) q) (of_slot_where_own (slot_for us e) q) (of_slot_other (slot_for us e) q) us

-- where no stored series passes a test that the key decides, one of the message that does is new
new_passes : (own : List Block) (q : Block → Bool) → ByKey q → has q own ≡ false → (y : Block) → q y ≡ true → is_new own y ≡ true
unfolding is_new
new_passes own q by e y t = neg_true _ (all_has_no (key_is (key y)) own (all_imply (λ x. q x ≡ false) (λ x. key_is (key y) x ≡ false)
    (λ x n. split (key_is (key y) x) (λ u. clash (by x y (key_is_yes (key y) x u) ∙ t) n) (λ u. u)) own (has_no_all q own e)))

-- a stored series that passes the test is, to the message's series, known by its key: each of them passes exactly where it has that key
abbrev pub ToldByKey : (slot : ℕ) (us series : List Block) (q : Block → Bool) → Type 0
ToldByKey slot us series q = (x : Block) → find (of_slot slot q) us ≡ some x → All (λ z. q z ≡ key_is (key x) z) series

pub key_told : (slot : ℕ) (us series : List Block) (k : Bytes) → ToldByKey slot us series (key_is k)
key_told slot us series k x e = rw (key_is_yes k x (of_slot_test slot (key_is k) x (find_passes _ us x e))) (all_each (λ z. key_is k z ≡ key_is k z) (λ z. refl) series)

-- a trade too, where all trades are of one area
pub trade_told : (ours : Bytes) (slot : ℕ) (us series : List Block) → All (λ x. is_series x ≡ true → TradesIn ours x) us → All (TradesIn ours) series → (t : Option Bytes)
    → ToldByKey slot us series (trade_is t)
trade_told ours slot us series d c t x e =
    let p : of_slot slot (trade_is t) x ≡ true = find_passes _ us x e in
    all_imply (TradesIn ours) (λ z. trade_is t z ≡ key_is (key x) z)
    (trade_as_key ours t x (all_find (λ b. is_series b ≡ true → TradesIn ours b) _ us x d e (of_slot_series slot _ x p)) (of_slot_test slot (trade_is t) x p)) series c

-- what a sender has, its message has
pub present_test : (own series : List Block) → All (λ x. has (key_is (key x)) series ≡ true) own → (q : Block → Bool) → ByKey q → has q own ≡ true → has q series ≡ true
present_test own series f q by e =
    let a = has_yes q own e in
    let b = has_yes (key_is (key a.0)) series (all_find (λ x. has (key_is (key x)) series ≡ true) q own a.0 f a.1) in
    find_has_other (key_is (key a.0)) q series b.0 b.1
    (by b.0 a.0 (key_is_yes _ b.0 (find_passes _ series b.0 b.1)) ∙ find_passes q own a.0 a.1)

module _ (ours : Bytes) (us : List Block) (h : Block) (series : List Block) (c : Shape us h series) (w : OwnThere us (sender h)) (f : All (λ x. has (key_is (key x)) series ≡ true)
    (own_series us (sender h)))
    (view : Block → Bytes) (slotless : (slot : ℕ) (y : Block) → view (with_senders_slot slot y) ≡ view y) where
  abbrev slot : ℕ
  slot = slot_for us (sender h)

  abbrev again : Block → Block
  again = renewed ours (slot_for us (sender h)) h series

  abbrev new : List Block
  new = keep (is_new (own_series us (sender h))) series

  module _ (q : Block → Bool) (by : ByKey q) where
    of_slot_renewed : (i : ℕ) (b : Block) → of_slot i q (again b) ≡ of_slot i q b
    of_slot_renewed i b = of_slot_kept again (renewed_keeps ours us h series c) i q by b

    -- the new series, searched
    of_slot_adopted : (y : Block) → (length y ≡ 512) × (is_series y ≡ true) → of_slot slot q (with_senders_slot slot y) ≡ q y
    of_slot_adopted y p =
        of_slot_where_own slot q (with_senders_slot slot y) (series_of_yes slot _ (series_with_senders_slot slot y ∙ p.1) (adopted ours us h series c y p.0))
        ∙ by _ y (key_with_senders_slot slot y)

    find_fresh : find (of_slot slot q) (fresh ours us h series) ≡ option_map (with_senders_slot slot) (find q new)
    unfolding fresh
    find_fresh =
        find_append_second (of_slot slot q) (cond (has (is_sender_block_of (sender h)) us) [] (sender_kept ours h series ∷ [])) (map (with_senders_slot slot) new)
        (all_has_no (of_slot slot q) (cond (has (is_sender_block_of (sender h)) us) [] (sender_kept ours h series ∷ [])) (split (has (is_sender_block_of (sender h)) us)
        (λ t. rw t tt) (λ t. rw t (no_series, tt))))
        ∙ find_map_all (with_senders_slot slot) (of_slot slot q) q new
        (all_imply (λ y. (length y ≡ 512) × (is_series y ≡ true)) (λ y. of_slot slot q (with_senders_slot slot y) ≡ q y) of_slot_adopted new
        (all_keep (λ y. (length y ≡ 512) × (is_series y ≡ true)) (is_new (own_series us (sender h))) series
        (all_both (λ y. length y ≡ 512) (λ y. is_series y ≡ true) series c.series_whole c.series_kind)))
      where
        no_series : of_slot slot q (sender_kept ours h series) ≡ false
        no_series = of_slot_other slot q _ (series_of_other slot _ (sender_kept_no_series ours us h series c))

    module _ (told : ToldByKey (slot_for us (sender h)) us series q) where
      stored_one : has (of_slot slot q) us ≡ true → view_found view (of_slot slot q) (placed ours us h series) ≡ view_found view q series
      unfolding view_found placed replaced
      stored_one e =
          let a = has_yes (of_slot slot q) us e in
          let x : Block = a.0 in
          let o : is_series_of slot x ≡ true = of_slot_own slot q x (find_passes _ us x a.1) in
          let p : has (key_is (key x)) series ≡ true = all_find (λ z. is_series_of slot z ≡ true → has (key_is (key z)) series ≡ true) (of_slot slot q) us x
          (all_keep_back (λ z. has (key_is (key z)) series ≡ true) (is_series_of slot) us (rw (sym w) at f)) a.1 o in
          let b = has_yes (key_is (key x)) series p in
          let y : Block = b.0 in
          let r : find (of_slot slot q) (placed ours us h series) ≡ some (again x) = find_append_first (of_slot slot q) (map again us) (fresh ours us h series)
          (again x) (find_map again (of_slot slot q) (of_slot slot q) (of_slot_renewed slot) us ∙ ap (option_map again) a.1) in
          let v : again x ≡ with_senders_slot slot y = renewed_own ours us h series c x o ∙ ap (replaced slot x) b.1 in
          ap (option_map view) r ∙ ap some (ap view v ∙ slotless slot y) ∙ ap (option_map view) (sym b.1)
          ∙ ap (option_map view) (sym (find_agree q (key_is (key x)) series (told x a.1)))

      fresh_one : has (of_slot slot q) us ≡ false → view_found view (of_slot slot q) (placed ours us h series) ≡ view_found view q series
      unfolding view_found placed
      fresh_one e =
          ap (option_map view)
          (find_append_second (of_slot slot q) (map again us) (fresh ours us h series) (has_map_each again (of_slot slot q) (of_slot slot q) (of_slot_renewed slot) us ∙ e)
          ∙ find_fresh
          ∙ ap (option_map (with_senders_slot slot)) (find_keep q (is_new (own_series us (sender h)))
          (new_passes (own_series us (sender h)) q by (own_has us (sender h) w q ∙ e)) series))
          ∙ map_view view (with_senders_slot slot) (slotless slot) (find q series)

      pub held_own : view_found view (of_slot (slot_for us (sender h)) q) (placed ours us h series) ≡ view_found view q series
      held_own = split (has (of_slot slot q) us) stored_one fresh_one

    held_other : (i : ℕ) → is i slot ≡ false → view_found view (of_slot i q) (placed ours us h series) ≡ view_found view (of_slot i q) us
    unfolding view_found placed
    held_other i e =
        ap (option_map view)
        (find_append_only (of_slot i q) (map again us) (fresh ours us h series) fresh_none
        ∙ find_map again (of_slot i q) (of_slot i q) (of_slot_renewed i) us ∙ stays (find (of_slot i q) us) refl)
      where
        elsewhere : (z : Block) → of_slot i q z ≡ true → senders_slot z ≡ slot → ⊥
        elsewhere z t o = is_no i slot e (sym (of_slot_slot i q z t) ∙ o)

        stays : (o : Option Block) → find (of_slot i q) us ≡ o → option_map again o ≡ o
        stays none p = refl
        stays (some x) p =
            let t : of_slot i q x ≡ true = find_passes _ us x p in
            ap some (renewed_others_series ours us h series c x (of_slot_series i q x t) (split (is_series_of slot x) (λ u. absurd (elsewhere x t (series_of_slot slot x u)))
            (λ u. u)))

        fresh_none : has (of_slot i q) (fresh ours us h series) ≡ false
        fresh_none = all_has_no (of_slot i q) (fresh ours us h series)
            (all_imply (λ z. is_series z ≡ true → senders_slot z ≡ slot) (λ z. of_slot i q z ≡ false)
            (λ z o. split (of_slot i q z) (λ t. absurd (elsewhere z t (o (of_slot_series i q z t)))) (λ t. t)) (fresh ours us h series) (fresh_slots ours us h series c))

    pub held_after : (n : ℕ) → ((b : Block) → view (remarked n (slot_for us (sender h)) (placed ours us h series) b) ≡ view b) → ToldByKey (slot_for us (sender h)) us series q
        → (e : Bytes) → view_held view (used_after n ours us h series) e q ≡ cond (same (sender h) e) (view_found view q series) (view_held view us e q)
    unfolding used_after view_held
    held_after n markless told t = split (same (sender h) t)
        (λ e. rw (e, ← (same_yes (sender h) t e), slot_after_own ours us h series c n) (strip slot ∙ held_own told))
        (λ e. rw (e, slot_after_other ours us h series c n t e) (strip (slot_of us t) ∙ held_other (slot_of us t) (slots_differ us (sender h) t e)))
      where
        strip : (i : ℕ) → view_found view (of_slot i q) (used_after n ours us h series) ≡ view_found view (of_slot i q) (placed ours us h series)
        strip i = of_slot_found_remarked n slot (placed ours us h series) view markless (placed ours us h series) i q by

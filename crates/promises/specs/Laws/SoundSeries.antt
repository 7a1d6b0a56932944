-- Soundness is kept by an acceptance, as to every series: its fields are those of a stored series or of one that passed rules 7 to 15; its mark, if it is made
-- anew, has a count and a first of at most n and names a series' slot; and its sender's slot holds its sender, for no sender moves.
use Rattle.std.specs.Prelude.{◌≡◌, ◌∷◌, ◌+◌, ◌≤◌, ◌<◌}
use Rattle.laws.specs.Base.{refl, sym, ap, ◌∙◌, Bool, true, false, cond, Option, none, some, option_get_or, option_map, List, [], ℕ, zero, suc, arith, length, take_all}
use Rattle.laws.specs.Tests.{◌or◌, neg, is, upto}
use Rattle.laws.specs.Tests.Laws.{split, clash, and_left, and_right, and_both, or_yes_left, or_yes_right, or_else, is_equal, upto_true, below_each, below_agree}
use Rattle.laws.specs.Lists.{same, find, place, keep, All}
use Rattle.laws.specs.Lists.Each.{all_imply, all_both, all_keep, all_kept, all_find, all_map}
use Rattle.laws.specs.Lists.Search.{find_has, place_length}
use Rattle.laws.specs.Bytes.{part, value, little, number}
use Rattle.laws.specs.Bytes.Laws.{little_length, value_little, number_1}
use Rattle.paper.specs.Layout.{Bytes, Block, n_of, area, version, sender, senders_slot, pair, key, mark, differing, first, partner, quantities, entry, quantity, with_senders_slot, with_mark}
use Rattle.paper.specs.Ranges.{version_allowed, quantity_allowed, quantities_allowed}
use Rattle.paper.specs.Book.{day_block, used, is_series, is_external, numbered, is_sender_block_of, slot_of, is_series_of, own_series, key_is, trade}
use Rattle.paper.specs.Sound.{parties_of, owner_sound, partner_sound, series_fields, series_codes, series_values, series_sound, used_sound, differing_sound, differing_allowed}
use Rattle.paper.specs.Message.{head_of, series_of}
use Rattle.paper.specs.Rules.{series_version, stored_of}
use Rattle.paper.specs.Marks.{is_counterpart, counterpart, counterpart_slot, difference_from, first_difference, differences, mark_of, mark_in}
use Rattle.paper.specs.Acceptance.{sender_kept, touched, used_after}
use Rattle.facts.specs.Layout.{with_senders_slot_length, mark_with_mark, key_with_senders_slot, Alike, alike_senders_slot, alike_n, alike_version, alike_id, alike_key, alike_in_party, alike_out_party, alike_quantity, alike_above, mark_differing, mark_first, mark_partner, zeros_above}
use Rattle.facts.specs.Book.{no_block_series, sender_block_sender, sender_block_eic, series_of_series, series_of_slot, numbered_place, used_lengths}
use Rattle.facts.specs.Sound.{day_n, used_series, count_most, count_allowed_lem}
use Rattle.facts.specs.Verdict.{Line, Accepts}
use Rattle.facts.specs.Marks.{differences_most}
use Rattle.facts.specs.Keys.{key_type_allowed, key_capacity_allowed, key_areas_allowed, key_parties}
use Rattle.facts.specs.Pairs.{counterpart_series}
use Rattle.facts.specs.Remarking.{remarked_touched, remarked_untouched, alike_remarked, series_remarked, senders_slot_remarked, key_remarked}
use Rattle.facts.specs.Renewal.{Shape, shape, series_with_senders_slot, sender_kept_no_series, by_renewed, series_renewed, renewed_keeps, renewed_length, renewed_others_series, adopted, by_origin}
use Rattle.promises.specs.Laws.Marks.{own_touched}
use Rattle.promises.specs.Laws.Parts.{after_of, parts}
use Rattle.promises.specs.Laws.SoundSlots.{placed_few, series_placed, series_stored, sender_stored, sender_there}

-- ---- a series' fields, sender's slot and mark apart

pub record Fields (d x : Block) : Type 0 where
  pub fields : series_fields d x ≡ true
  pub codes : series_codes d x ≡ true
  pub entries : quantities_allowed (n_of d) x ≡ true

-- its mark
pub record Marked (d : Block) (l : List Block) (x : Block) : Type 0 where
  pub small_count : differing x ≤ n_of d
  pub small_first : upto (first x) (n_of d) ≡ true
  pub partner_series : partner_sound l x ≡ true

module _ (d : Block) (us : List Block) (x : Block) where
  pub fields_of : series_sound d us x ≡ true → Fields d x
  unfolding series_sound series_values
  fields_of e =
      let y = and_left _ _ (and_left _ _ e) in
      record { fields = and_left _ _ (and_left _ _ y); codes = and_right _ _ (and_left _ _ y); entries = and_right _ _ (and_right _ _ y) }

  marked_of : series_sound d us x ≡ true → differing x ≤ n_of d → Marked d us x
  unfolding series_sound series_values
  marked_of e h = record { small_count = h; small_first = and_left _ _ (and_right _ _ (and_left _ _ (and_left _ _ e))); partner_series = and_right _ _ e }

  pub owner_of : series_sound d us x ≡ true → owner_sound us x ≡ true
  unfolding series_sound
  owner_of e = and_right _ _ (and_left _ _ e)

  pub series_sound_lem : Fields d x → Marked d us x → owner_sound us x ≡ true → series_sound d us x ≡ true
  unfolding series_sound series_values
  series_sound_lem f k o =
      and_both _ _ (and_both _ _ (and_both _ _ (and_both _ _ f.fields f.codes) (and_both _ _ k.small_first f.entries)) o) k.partner_series

fields_version : (d x : Block) → Fields d x → version_allowed (version x) ≡ true
unfolding series_fields
fields_version d x f = and_right _ _ (and_left _ _ (and_left _ _ (and_left _ _ f.fields)))

pub fields_alike : (d x y : Block) → n_of d ≤ 100 → Alike x y → Fields d y → Fields d x
unfolding series_fields series_codes quantities_allowed
fields_alike d x y h a f = record {
  fields = rw (alike_n x y a, alike_version x y a, key_type_allowed x y (alike_key x y a), key_capacity_allowed x y (alike_key x y a), alike_id x y a) f.fields;
  codes = rw (key_areas_allowed x y (alike_key x y a) (area d), alike_in_party x y a, alike_out_party x y a) f.codes;
  entries = rw (
    below_agree (λ k. quantity_allowed (quantity x k)) (λ k. quantity_allowed (quantity y k)) (n_of d)
        (λ k l. ap quantity_allowed (alike_quantity x y a k (omega arith))),
    alike_above x y a (n_of d) h,
  ) f.entries;
}

-- ---- the fields of a message's series

version_line : (d : Block) (own : List Block) (h y : Block) → Line d own h y → version_allowed (version h) ≡ true → All (λ x. version_allowed (version x) ≡ true) own
    → version_allowed (version y) ≡ true
unfolding stored_of series_version neg ◌or◌
version_line d own h y l v f = ap version_allowed l.version_is ∙ by (find (key_is (key y)) own) refl
  where
    by : (o : Option Block) → find (key_is (key y)) own ≡ o → version_allowed (series_version (option_get_or (find (key_is (key y)) own) []) h y) ≡ true
    by none e = rw (e, no_block_series) v
    by (some x) e = rw e (cond_either (neg (is_series x) or neg (same (quantities x) (quantities y))) v (all_find (λ z. version_allowed (version z) ≡ true)
        (key_is (key y)) own x f e))
      where
        cond_either : (t : Bool) → version_allowed (version h) ≡ true → version_allowed (version x) ≡ true → version_allowed (cond t (version h) (version x)) ≡ true
        cond_either true p q = p
        cond_either false p q = q

fields_line : (d : Block) (own : List Block) (h y : Block) → n_of d ≤ 100 → Line d own h y → n_of y ≡ n_of d → version_allowed (version h) ≡ true → All
    (λ x. version_allowed (version x) ≡ true) own → Fields d y
unfolding series_fields series_codes quantities_allowed quantity_allowed
fields_line d own h y n l e v f = record {
  fields = and_both _ _ (and_both _ _ (and_both _ _ (and_both _ _ (is_equal _ _ e) (version_line d own h y l v f)) l.type_is_allowed) l.capacity) l.id_formed;
  codes = and_both _ _ (and_both _ _ l.areas l.in_valid) l.out_valid;
  entries = and_both _ _ (below_each (λ k. upto (quantity y k) 9999999) (n_of d) (λ k t. upto_true _ _ (l.small k (omega arith) t)))
      (zeros_above (n_of d) y n l.above);
}

-- ---- a mark as it is worked out

pub partner_in : (s f slot : ℕ) → slot < 65536 → number 2 2 (s ∷ f ∷ little 2 slot) ≡ slot
unfolding number part
partner_in s f slot h = ap value (take_all 2 (little 2 slot) (omega (arith, little_length 2 slot))) ∙ value_little 2 slot h

difference_small : (f k : ℕ) (a b : Bytes) → difference_from f k a b ≤ k + f
unfolding difference_from
difference_small zero k a b = omega arith
difference_small (suc f) k a b = split (is (entry a k) (entry b k)) (λ t. rw t (omega (arith, difference_small f (k + 1) a b))) (λ t. rw t (omega arith))

-- a mark of four bytes, written over a block
module _ (d : Block) (l : List Block) (x : Block) (whole : length x ≡ 512) (c f : ℕ) (r : Bytes) (two : length r ≡ 2) where
  marked_by : c ≤ n_of d → f ≤ n_of d → partner_sound l (with_mark (c ∷ f ∷ r) x) ≡ true → Marked d l (with_mark (c ∷ f ∷ r) x)
  marked_by h g p =
      let m : mark (with_mark (c ∷ f ∷ r) x) ≡ c ∷ f ∷ r = mark_with_mark (c ∷ f ∷ r) x (omega arith) whole in
      let cs : differing (with_mark (c ∷ f ∷ r) x) ≡ c = mark_differing _ ∙ ap (number 1 0) m ∙ number_1 0 (c ∷ f ∷ r) in
      let fs : first (with_mark (c ∷ f ∷ r) x) ≡ f = mark_first _ ∙ ap (number 1 1) m ∙ number_1 1 (c ∷ f ∷ r) in
      record { small_count = omega arith; small_first = upto_true _ _ (omega arith); partner_series = p }

  partner_by_lem : partner (with_mark (c ∷ f ∷ r) x) ≡ number 2 2 (c ∷ f ∷ r)
  partner_by_lem = mark_partner _ ∙ ap (number 2 2) (mark_with_mark (c ∷ f ∷ r) x (omega arith) whole)

-- in a list l whose series m keeps in their slots
pub marked_in : (d : Block) (l m : List Block) (x : Block) → length x ≡ 512 → length l < 65536 → ((i : ℕ) → is_series (numbered l i) ≡ true → is_series
    (numbered m i) ≡ true) → Marked d m (with_mark (mark_in (n_of d) l x) x)
unfolding mark_in counterpart counterpart_slot mark_of first_difference partner_sound little
marked_in d l m x whole few g = by (find p l) refl
  where
    p : Block → Bool
    p = is_counterpart (senders_slot x) (trade x)

    by : (o : Option Block) → find p l ≡ o → Marked d m (with_mark (mark_of (n_of d) (quantities x) (option_map quantities (find p l)) (place p l)) x)
    by none e = rw e (marked_by d m x whole 0 0 (0 ∷ 0 ∷ []) refl (omega arith) (omega arith)
        (or_yes_left _ _ (is_equal _ _ (partner_by_lem d m x whole 0 0 (0 ∷ 0 ∷ []) refl ∙ partner_in 0 0 0 (omega arith)))))
    by (some y) e =
        let c : ℕ = differences (n_of d) (quantities x) (quantities y) in
        let f : ℕ = difference_from (n_of d) 0 (quantities x) (quantities y) in
        let k : partner (with_mark (c ∷ f ∷ little 2 (place p l)) x) ≡ place p l =
        partner_by_lem d m x whole c f (little 2 (place p l)) (little_length 2 (place p l)) ∙ partner_in c f (place p l) (omega (arith, place_length p l)) in
        rw e (marked_by d m x whole c f (little 2 (place p l)) (little_length 2 (place p l)) (differences_most (quantities x) (quantities y) (n_of d))
        (omega (arith, difference_small (n_of d) 0 (quantities x) (quantities y)))
        (or_yes_right _ _ (rw k (g (place p l) (counterpart_series (senders_slot x) (trade x) _ (numbered_place p l (find_has p l y e)))))))

-- ---- of an accepted message

pub owner_yes : (l : List Block) (e : Bytes) (i : ℕ) (x : Block) → senders_slot x ≡ i → is_sender_block_of e (numbered l i) ≡ true → parties_of (is_external x) e (pair x) ≡ true
    → owner_sound l x ≡ true
unfolding owner_sound
owner_yes l e i x o t p = rw (o, sender_block_eic e (numbered l i) t) (and_both _ _ (sender_block_sender e _ t) p)

-- a series of the message: d is the day block, e the sender
record Right (d : Block) (e : Bytes) (y : Block) : Type 0 where
  pub whole : length y ≡ 512
  pub series : is_series y ≡ true
  pub fields : Fields d y
  pub parties : parties_of (is_external y) e (pair y) ≡ true

module _ (book message : Bytes) (a : Accepts book message) where
  open parts book message use {d, ours, us, h, series, slot, own, again, now, put, after}

  c : Shape (used book) (head_of message) (series_of message)
  c = shape book message a

  n_few : n_of (day_block book) ≤ 100
  n_few = day_n d a.was.day

  own_versions : All (λ x. version_allowed (version x) ≡ true) own
  unfolding own_series
  own_versions =
      all_imply (λ x. (used_sound d us x ≡ true) × (is_series_of (slot_of us (sender h)) x ≡ true)) (λ x. version_allowed (version x) ≡ true)
      (λ x q. fields_version d x (fields_of d us x (used_series d us x q.0 (series_of_series _ x q.1)))) (keep (is_series_of (slot_of us (sender h))) us)
      (all_both (λ x. used_sound d us x ≡ true) (λ x. is_series_of (slot_of us (sender h)) x ≡ true) (keep (is_series_of (slot_of us (sender h))) us)
      (all_keep (λ x. used_sound d us x ≡ true) (is_series_of (slot_of us (sender h))) us a.was.each) (all_kept (is_series_of (slot_of us (sender h))) us))

  series_right_lem : All (Right (day_block book) (sender (head_of message))) (series_of message)
  series_right_lem =
      all_imply (λ y. (length y ≡ 512) × ((is_series y ≡ true) × ((n_of y ≡ n_of h) × Line d own h y))) (Right d (sender h))
      (λ y q. record {
        whole = q.0;
        series = q.1.0;
        fields = fields_line d own h y n_few q.1.1.1 (q.1.1.0 ∙ a.n_is)
            a.version_is_allowed own_versions;
        parties = q.1.1.1.parties;
      }) series
      (all_both (λ y. length y ≡ 512) (λ y. (is_series y ≡ true) × ((n_of y ≡ n_of h) × Line d own h y)) series c.series_whole
      (all_both (λ y. is_series y ≡ true) (λ y. (n_of y ≡ n_of h) × Line d own h y) series c.series_kind
      (all_both (λ y. n_of y ≡ n_of h) (Line d own h) series a.right.series_n a.each)))

  -- the sender's slot

  owner_stored : (x : Block) → is_series x ≡ true → owner_sound us x ≡ true → owner_sound after (put (again x)) ≡ true
  unfolding owner_sound
  owner_stored x s o =
      owner_yes after (sender (numbered us (senders_slot x))) (senders_slot x) (put (again x))
      (senders_slot_remarked _ _ _ (again x) ∙ (renewed_keeps ours us h series c).slot x s) (sender_stored book message a (senders_slot x) (and_left _ _ o))
      (key_parties _ x (key_remarked _ _ _ (again x) ∙ (renewed_keeps ours us h series c).keys x s) _ ∙ and_right _ _ o)

  owner_new : (y : Block) → Right d (sender h) y → owner_sound after (put (with_senders_slot slot y)) ≡ true
  owner_new y q =
      owner_yes after (sender h) slot (put (with_senders_slot slot y))
      (senders_slot_remarked _ _ _ (with_senders_slot slot y) ∙ adopted ours us h series c y q.whole) (sender_there book message a)
      (key_parties _ y (key_remarked _ _ _ (with_senders_slot slot y) ∙ key_with_senders_slot slot y) _ ∙ q.parties)

  -- the mark

  mark_touched : (x : Block) → length x ≡ 512 → touched slot now x ≡ true → Marked d after (put x)
  mark_touched x s t = rw (remarked_touched _ _ _ x t) (marked_in d now after x s (placed_few book message a) (series_placed book message a))

  partner_stored : (x : Block) → partner_sound us x ≡ true → partner_sound after x ≡ true
  unfolding partner_sound
  partner_stored x e = split (is (partner x) 0) (λ t. or_yes_left _ _ t) (λ t. or_yes_right _ _ (series_stored book message a (partner x) (or_else _ _ e t)))

  mark_stays : (x : Block) → Marked d us x → Marked d after x
  mark_stays x k = record { small_count = k.small_count; small_first = k.small_first; partner_series = partner_stored x k.partner_series }

  mark_stored : (x : Block) → length x ≡ 512 → is_series x ≡ true → Marked d us x → Marked d after (put (again x))
  mark_stored x l s k = split (touched slot now (again x)) (mark_touched (again x) (renewed_length ours us h series c x l)) left
    where
      left : touched slot now (again x) ≡ false → Marked d after (put (again x))
      left t =
          let v : is_series_of slot x ≡ false = split (is_series_of slot x) (λ v. clash (own_touched slot now (again x) (series_renewed ours us h series c x ∙ s)
          ((renewed_keeps ours us h series c).slot x s ∙ series_of_slot slot x v)) t) (λ v. v) in
          rw (remarked_untouched (n_of d) slot now (again x) t ∙ renewed_others_series ours us h series c x s v) (mark_stays x k)

  -- the rest

  fields_stored : (x : Block) → is_series x ≡ true → Fields d x → Fields d (again x)
  fields_stored x s f = by_renewed ours us h series c (Fields d) (Right d (sender h)) series_right_lem x s f (λ u y q e. fields_alike d _ y n_few (alike_senders_slot slot y)
      q.fields)

  fields_put : (x : Block) → Fields d x → Fields d (put x)
  fields_put x f = fields_alike d (put x) x n_few (alike_remarked _ _ _ x) f

  sound_after : (z : Block) → Fields d z → Marked d after z → owner_sound after z ≡ true → (series_sound d after z ≡ true) × (differing z ≤ n_of d)
  sound_after z f k o = (series_sound_lem d after z f k o, k.small_count)

  pub each_series_kept : All (λ z. is_series z ≡ true → (series_sound (day_block book) (after_of book message) z ≡ true) × (differing z ≤ n_of (day_block book)))
      (after_of book message)
  unfolding used_after
  each_series_kept =
      all_map (λ z. is_series z ≡ true → (series_sound d after z ≡ true) × (differing z ≤ n_of d)) put now
      (by_origin ours us h series c (λ z. is_series (put z) ≡ true → (series_sound d after (put z) ≡ true) × (differing (put z) ≤ n_of d))
      (λ x. (length x ≡ 512) × ((used_sound d us x ≡ true) × (differing_sound differing_allowed (n_of d) x ≡ true)))
      (Right d (sender h))
      (all_both (λ x. length x ≡ 512) (λ x. (used_sound d us x ≡ true) × (differing_sound differing_allowed (n_of d) x ≡ true)) us (used_lengths book)
      (all_both (λ x. used_sound d us x ≡ true) (λ x. differing_sound differing_allowed (n_of d) x ≡ true) us a.was.each a.was.counts))
      series_right_lem stored added young)
    where
      stored : (x : Block) → (length x ≡ 512) × ((used_sound d us x ≡ true) × (differing_sound differing_allowed (n_of d) x ≡ true)) → is_series (put (again x)) ≡ true
          → (series_sound d after (put (again x)) ≡ true) × (differing (put (again x)) ≤ n_of d)
      stored x q s =
          let r : is_series x ≡ true = sym (series_renewed ours us h series c x) ∙ sym (series_remarked _ _ _ (again x)) ∙ s in
          let k : series_sound d us x ≡ true = used_series d us x q.1.0 r in
          sound_after (put (again x)) (fields_put (again x) (fields_stored x r (fields_of d us x k)))
          (mark_stored x q.0 r (marked_of d us x k (count_most (n_of d) x q.1.1 r))) (owner_stored x r (owner_of d us x k))

      added : is_series (put (sender_kept ours h series)) ≡ true → (series_sound d after (put (sender_kept ours h series)) ≡ true) × (differing (put (sender_kept ours h series)) ≤ n_of d)
      added s = clash (sym (series_remarked _ _ _ (sender_kept ours h series)) ∙ s) (sender_kept_no_series ours us h series c)

      young : (y : Block) → Right d (sender h) y → is_series (put (with_senders_slot slot y)) ≡ true
          → (series_sound d after (put (with_senders_slot slot y)) ≡ true) × (differing (put (with_senders_slot slot y)) ≤ n_of d)
      young y q s =
          sound_after (put (with_senders_slot slot y)) (fields_put _ (fields_alike d _ y n_few (alike_senders_slot slot y) q.fields))
          (mark_touched (with_senders_slot slot y) (with_senders_slot_length slot y ∙ q.whole) (own_touched slot now (with_senders_slot slot y)
          (series_with_senders_slot slot y ∙ q.series) (adopted ours us h series c y q.whole)))
          (owner_new y q)

  pub counts_kept : All (λ z. differing_sound differing_allowed (n_of (day_block book)) z ≡ true) (after_of book message)
  counts_kept = all_imply (λ z. is_series z ≡ true → (series_sound d after z ≡ true) × (differing z ≤ n_of d)) (λ z. differing_sound differing_allowed (n_of d) z ≡ true)
      (λ z f. count_allowed_lem (n_of d) z (λ t. (f t).1)) after each_series_kept

-- Soundness is kept by a conversion: it writes the nets of each sender and the mark of each series, which are within their ranges, and seals them; all else stays as it
-- was.
use Rattle.std.specs.Prelude.{◌≡◌, ◌≤◌}
use Rattle.laws.specs.Base.{sym, ap, ◌∙◌, true, List, ℕ, arith, length}
use Rattle.laws.specs.Tests.Laws.{and_left, and_right, and_both}
use Rattle.laws.specs.Lists.{All}
use Rattle.laws.specs.Lists.Each.{all_imply, all_both, all_each, all_map}
use Rattle.paper.specs.Check.{check_right}
use Rattle.paper.specs.Layout.{Bytes, Block, n_of, area, sender, sender_zeros, senders_slot, with_mark, with_nets}
use Rattle.paper.specs.Book.{day_block, used, is_sender, is_series, is_right, numbered, slot_of, own_series}
use Rattle.paper.specs.Sound.{count_sound, sender_fields, sender_day_and_nets, sender_sound, owner_sound, series_sound, right_sound, used_sound, differing_sound, differing_allowed, sound}
use Rattle.paper.specs.Marks.{mark_in}
use Rattle.paper.specs.Nets.{nets_of}
use Rattle.paper.specs.Conversion.{conversion_number, used_converted, converted}
use Rattle.facts.specs.Layout.{part_with_nets_before, senders_slot_with_mark, key_with_mark, n_with_nets, version_with_nets, id_with_nets, sender_with_nets, receiver_with_nets, day_of_message_with_nets, series_count_with_nets, alike_mark, alike_id}
use Rattle.facts.specs.Book.{right_not_sender, right_not_series, used_lengths}
use Rattle.facts.specs.Keys.{key_parties}
use Rattle.facts.specs.Sound.{Sound, is_sound, day_n, used_few, used_sender, used_series, used_right, used_kind, count_allowed_lem}
use Rattle.facts.specs.Remarking.{mark_in_length}
use Rattle.facts.specs.Conversion.{Converts, converts, converted_sender, converted_series, converted_other, by_converted, sender_block_converted, senders_slot_converted, key_converted}
use Rattle.promises.specs.Laws.Parts.{again_of, used_again_of}
use Rattle.promises.specs.Laws.Rewritten.{used_right as used_checks, sound_rewritten}
use Rattle.promises.specs.Laws.SoundBytes.{with_mark_right, with_nets_right}
use Rattle.promises.specs.Laws.SoundApart.{senders_map, Kept, series_map}
use Rattle.promises.specs.Laws.SoundSeries.{fields_of, owner_of, series_sound_lem, fields_alike, Marked, marked_in, owner_yes}
use Rattle.promises.specs.Laws.SoundRights.{RightStays, rights_map}
use Rattle.promises.specs.Laws.SoundSenders.{used_sound_by}
use Rattle.promises.specs.Laws.Nets.{nets_allowed_lem}
use Rattle.promises.specs.Laws.OwnSeries.{own_few, own_within, own_above}
use Rattle.promises.specs.Laws.ConvertedSlots.{kind_again, rewrites, result, slot_converted, count_converted, series_again, sender_again}

-- a used block as it was: whole, sound and right
abbrev pub Was : (book : Bytes) (x : Block) → Type 0
Was book x = (length x ≡ 512) × ((used_sound (day_block book) (used book) x ≡ true) × (check_right x ≡ true))

module _ (book : Bytes) (c : Converts book) where
  abbrev d : Block
  d = day_block book

  abbrev ours : Bytes
  ours = area (day_block book)

  abbrev us : List Block
  us = used book

  abbrev n : ℕ
  n = n_of (day_block book)

  abbrev again : Block → Block
  again = again_of book

  abbrev after : List Block
  after = used_again_of book

  n_few : n_of (day_block book) ≤ 100
  n_few = day_n d c.was.day

  -- ---- a sender

  module _ (s : Block) (whole : length s ≡ 512) (q : sender_sound (day_block book) (used book) s ≡ true) where
    abbrev v : Bytes
    v = nets_of (area (day_block book)) (sender s) (own_series (used book) (sender s))

    again_fields : sender_fields d (with_nets v s) ≡ sender_fields d s
    unfolding sender_fields sender_zeros
    again_fields = rw (
      n_with_nets v s,
      version_with_nets v s,
      id_with_nets v s,
      sender_with_nets v s,
      part_with_nets_before v 6 2 s (omega arith),
      part_with_nets_before v 64 44 s (omega arith),
    )

    again_day : sender_day_and_nets d (with_nets v s) ≡ true
    unfolding sender_day_and_nets sender_sound
    again_day =
        and_both _ _ (rw (receiver_with_nets v s, day_of_message_with_nets v s) (and_left _ _ (and_right _ _ (and_left _ _ q))))
        (nets_allowed_lem ours (sender s) (own_series us (sender s)) s n n_few whole (own_few book c.was (sender s)) (own_within book c.was (sender s))
        (own_above book c.was (sender s)))

    again_count : count_sound after (with_nets v s) ≡ count_sound us s
    unfolding count_sound
    again_count = rw (series_count_with_nets v s, sender_with_nets v s, slot_converted book c (sender s), count_converted book c (slot_of us (sender s)))

    again_sender : sender_sound d after (with_nets v s) ≡ true
    unfolding sender_sound
    again_sender = and_both _ _ (and_both _ _ (again_fields ∙ and_left _ _ (and_left _ _ q)) again_day) (again_count ∙ and_right _ _ q)

  -- ---- a series

  module _ (x : Block) (whole : length x ≡ 512) (q : series_sound (day_block book) (used book) x ≡ true) where
    abbrev y : Block
    y = with_mark (mark_in (n_of (day_block book)) (used book) x) x

    again_marked : Marked d after y
    again_marked = marked_in d us after x whole (omega (arith, used_few book c.was)) (series_again book c)

    again_owner : owner_sound after y ≡ true
    unfolding owner_sound
    again_owner =
        let o = owner_of d us x q in
        owner_yes after (sender (numbered us (senders_slot x))) (senders_slot x) y (senders_slot_with_mark _ x) (sender_again book c (senders_slot x) (and_left _ _ o))
        (key_parties _ x (key_with_mark _ x) _ ∙ and_right _ _ o)

    again_series : series_sound d after y ≡ true
    again_series = series_sound_lem d after y (fields_alike d y x n_few (alike_mark _ x (mark_in_length n us x)) (fields_of d us x q)) again_marked again_owner

  -- ---- every block

  pub all_were : All (Was book) (used book)
  all_were = all_both (λ x. length x ≡ 512) (λ x. (used_sound d us x ≡ true) × (check_right x ≡ true)) us (used_lengths book)
      (all_both (λ x. used_sound d us x ≡ true) (λ x. check_right x ≡ true) us c.was.each (used_checks book c.was))

  -- a fact of each converted block
  pub all_again : (P : Block → Type 0) → ((x : Block) → Was book x → P (again_of book x)) → All P (used_again_of book)
  unfolding used_converted
  all_again P f = all_map P again us (all_imply (Was book) (λ x. P (again x)) f us all_were)

  again_right : (x : Block) → Was book x → check_right (again x) ≡ true
  again_right x w = by_converted n ours us (λ z. check_right z ≡ true) x (λ t. with_nets_right _ x w.0) (λ t. with_mark_right _ x w.0) w.1.1

  again_stays : (x : Block) → RightStays again x
  again_stays x t =
      let r : is_right x ≡ true = sym (kind_again book c x).2 ∙ t in
      converted_other n ours us x (right_not_sender x r) (right_not_series x r)

  again_sound : (x : Block) → Was book x → used_sound d after (again x) ≡ true
  again_sound x w = used_sound_by d after (again x) (rw ((kind_again book c x).0, (kind_again book c x).1, (kind_again book c x).2) (used_kind d us x w.1.0))
      (λ t. let s : is_sender x ≡ true = sym (kind_again book c x).0 ∙ t in
      rw (converted_sender n ours us x s) (again_sender x w.0 (used_sender d us x w.1.0 s)))
      (λ t. let s : is_series x ≡ true = sym (kind_again book c x).1 ∙ t in
      rw (converted_series n ours us x s) (again_series x w.0 (used_series d us x w.1.0 s)))
      (λ t. ap (right_sound d) (again_stays x t) ∙ used_right d us x w.1.0 (ap is_right (sym (again_stays x t)) ∙ t))

  again_small : (x : Block) → Was book x → differing_sound differing_allowed n (again x) ≡ true
  again_small x w = count_allowed_lem n (again x) (λ t.
      let s : is_series x ≡ true = sym (kind_again book c x).1 ∙ t in
      rw (converted_series n ours us x s) (again_marked x w.0 (used_series d us x w.1.0 s)).small_count)

  again_kept : (x : Block) → Kept again x
  again_kept x t =
      let s : is_series x ≡ true = sym (kind_again book c x).1 ∙ t in
      (s, senders_slot_converted n ours us x s, rw (converted_series n ours us x s) (alike_id _ x (alike_mark _ x (mark_in_length n us x))), key_converted n ours us x s)

  pub sound_converted : Sound (converted book)
  unfolding used_converted
  sound_converted = rw (result book c)
      (sound_rewritten book after (rewrites book c) (all_again (λ x. check_right x ≡ true) again_right) (all_again (λ x. used_sound d after x ≡ true) again_sound)
      (senders_map again (sender_block_converted n ours us) us c.was.senders) (series_map again us (all_each (Kept again) again_kept us) c.was.series)
      (rights_map again us (all_each (RightStays again) again_stays us) c.was.rights)
      (all_again (λ x. differing_sound differing_allowed n x ≡ true) again_small))

-- as a test
pub converted_sound : (book : Bytes) → conversion_number book ≡ 0 → sound (converted book) ≡ true
converted_sound book e = is_sound _ (sound_converted book (converts book e))

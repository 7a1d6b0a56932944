-- A right that is entered stands behind all used slots: no search for a sender, a series or a counterpart meets it, so each finds what it found; and the book stays sound, as no stored right is
-- like it in all but limits.
use Rattle.std.specs.Prelude.{◌≡◌, ◌∷◌, ◌++◌, ◌+◌, ◌*◌, ◌/◌, ◌≤◌, ◌<◌}
use Rattle.laws.specs.Base.{refl, sym, ap, ap₂, ◌∙◌, Bool, true, false, cond, Option, some, option_map, List, [], map, append_assoc, append-nil, ℕ, zero, arith, length, take, drop, length-append, take_at, drop_at}
use Rattle.laws.specs.Tests.{◌and◌, ◌or◌, neg, is}
use Rattle.laws.specs.Tests.Laws.{split, clash, and_left, and_right, and_both, and_no_left, and_no_right, or_yes_left, or_yes_right, or_else, neg_true, is_yes, is_equal}
use Rattle.laws.specs.Lists.{same, find, has, place, nth, every, count, keep, apart, All}
use Rattle.laws.specs.Lists.Same.{same_swap}
use Rattle.laws.specs.Lists.Each.{all_imply, all_each, all_append, nth_append_left}
use Rattle.laws.specs.Lists.Search.{has_no_all, all_has_no, find_append_only, place_append_only}
use Rattle.laws.specs.Lists.Apart.{apart_append}
use Rattle.laws.specs.Lists.Keep.{keep_append, keep_none, until_count}
use Rattle.laws.specs.Lists.Count.{count_append}
use Rattle.laws.specs.Bytes.{written}
use Rattle.laws.specs.Bytes.Laws.{written_take_drop}
use Rattle.laws.specs.Cut.{join}
use Rattle.laws.specs.Cut.Laws.{join_length, join_append}
use Rattle.paper.specs.Check.{check_right}
use Rattle.paper.specs.Layout.{Bytes, Block, n_of, series_count, sender, nets, senders_slot, mark, partner, but_limits}
use Rattle.paper.specs.Book.{day_block, slots, is_free, used, free_slots, is_sender, is_series, is_right, trade, numbered, is_sender_block_of, slot_of, is_series_of, own_series}
use Rattle.paper.specs.Sound.{count_sound, sender_sound, owner_sound, partner_sound, series_sound, right_sound, used_sound, same_sender, same_series, same_right, differing_sound, differing_allowed, sound}
use Rattle.paper.specs.Marks.{is_counterpart, counterpart, counterpart_slot, mark_in}
use Rattle.paper.specs.Nets.{nets_of}
use Rattle.paper.specs.Rights.{enter_number, entered}
use Rattle.facts.specs.Book.{no_block_sender, no_block_series, right_not_sender, right_not_series, sender_block_sender, series_of_other, numbered_append_left, numbered_inside, slots_length, used_lengths}
use Rattle.facts.specs.Sound.{Sound, is_sound, book_least, day_block_length, used_few, used_sender, used_series, used_right, used_kind, count_allowed_lem, count_most}
use Rattle.facts.specs.Pairs.{of_slot, of_slot_series, view_found, view_held, counterpart_series}
use Rattle.facts.specs.Unchanged.{book_joined}
use Rattle.facts.specs.Rights.{Enters, enters}
use Rattle.promises.specs.Laws.Marks.{MarksTrue}
use Rattle.promises.specs.Laws.NetsTrue.{NetsTrue}
use Rattle.promises.specs.Laws.Rewritten.{used_right as used_checks, used_live, rewritten, Rewrites, used_rewritten, day_block_rewritten, rest_rewritten, sound_rewritten}
use Rattle.promises.specs.Laws.SoundRights.{no_right_left}
use Rattle.promises.specs.Laws.SoundSenders.{used_sound_by}

-- ---- searches beside a right r

module _ (us : List Block) (r : Block) (right : is_right r ≡ true) where
  abbrev after : List Block
  after = us ++ r ∷ []

  alone : (p : Block → Bool) → p r ≡ false → has p (r ∷ []) ≡ false
  alone p e = all_has_no p (r ∷ []) (e, tt)

  no_sender : (e : Bytes) → is_sender_block_of e r ≡ false
  no_sender e = split (is_sender_block_of e r) (λ t. clash (sender_block_sender e r t) (right_not_sender r right)) (λ t. t)

  no_series : (p : Block → Bool) → ((b : Block) → p b ≡ true → is_series b ≡ true) → p r ≡ false
  no_series p f = split (p r) (λ t. clash (f r t) (right_not_series r right)) (λ t. t)

  pub sender_beside : (e : Bytes) → find (is_sender_block_of e) (us ++ r ∷ []) ≡ find (is_sender_block_of e) us
  sender_beside e = find_append_only (is_sender_block_of e) us (r ∷ []) (alone _ (no_sender e))

  slot_beside : (e : Bytes) → slot_of after e ≡ slot_of us e
  unfolding slot_of
  slot_beside e = place_append_only (is_sender_block_of e) us (r ∷ []) (alone _ (no_sender e))

  pub held_beside : (view : Block → Bytes) (e : Bytes) (q : Block → Bool) → view_held view (us ++ r ∷ []) e q ≡ view_held view us e q
  unfolding view_held view_found
  held_beside view e q =
      ap (λ i. option_map view (find (of_slot i q) after)) (slot_beside e)
      ∙ ap (option_map view) (find_append_only (of_slot (slot_of us e) q) us (r ∷ []) (alone _ (no_series _ (of_slot_series (slot_of us e) q))))

  mark_beside : (n : ℕ) (x : Block) → mark_in n after x ≡ mark_in n us x
  unfolding mark_in counterpart counterpart_slot
  mark_beside n x =
      let p : Block → Bool = is_counterpart (senders_slot x) (trade x) in
      let m : has p (r ∷ []) ≡ false = alone p (no_series p (counterpart_series (senders_slot x) (trade x))) in
      rw (find_append_only p us (r ∷ []) m, place_append_only p us (r ∷ []) m)

  pub marks_beside : (n : ℕ) → MarksTrue n us → MarksTrue n (us ++ r ∷ [])
  unfolding MarksTrue
  marks_beside n m = all_append (λ x. is_series x ≡ true → mark x ≡ mark_in n after x) us (r ∷ [])
      (all_imply (λ x. is_series x ≡ true → mark x ≡ mark_in n us x) (λ x. is_series x ≡ true → mark x ≡ mark_in n after x) (λ x f t. f t ∙ sym (mark_beside n x)) us m)
      ((λ t. clash t (right_not_series r right)), tt)

  own_beside : (e : Bytes) → own_series after e ≡ own_series us e
  unfolding own_series
  own_beside e =
      ap (λ i. keep (is_series_of i) after) (slot_beside e) ∙ keep_append (is_series_of (slot_of us e)) us (r ∷ [])
      ∙ ap (λ l. keep (is_series_of (slot_of us e)) us ++ l) (keep_none (is_series_of (slot_of us e)) (r ∷ []) (alone _ (series_of_other _ r (right_not_series r right))))
      ∙ append-nil (keep (is_series_of (slot_of us e)) us)

  pub nets_beside : (ours : Bytes) → NetsTrue ours us → NetsTrue ours (us ++ r ∷ [])
  unfolding NetsTrue
  nets_beside ours v = all_append (λ s. is_sender s ≡ true → nets s ≡ nets_of ours (sender s) (own_series after (sender s))) us (r ∷ [])
      (all_imply (λ s. is_sender s ≡ true → nets s ≡ nets_of ours (sender s) (own_series us (sender s))) (λ s. is_sender s ≡ true → nets s ≡ nets_of ours (sender s) (own_series after (sender s)))
      (λ s f t. f t ∙ ap (nets_of ours (sender s)) (sym (own_beside (sender s)))) us v)
      ((λ t. clash t (right_not_sender r right)), tt)

  -- ---- soundness of each block

  count_beside : (i : ℕ) → count (is_series_of i) after ≡ count (is_series_of i) us
  unfolding count
  count_beside i = count_append (is_series_of i) us (r ∷ []) ∙ rw (series_of_other i r (right_not_series r right)) (omega arith)

  sender_sound_beside : (d s : Block) → sender_sound d us s ≡ sender_sound d after s
  unfolding sender_sound count_sound
  sender_sound_beside d s = rw (slot_beside (sender s), count_beside (slot_of us (sender s)))

  numbered_beside : (p : Block → Bool) → p [] ≡ false → (i : ℕ) → p (numbered us i) ≡ true → numbered after i ≡ numbered us i
  numbered_beside p e i t = numbered_append_left us (r ∷ []) i (numbered_inside us i p e t).1

  series_sound_beside : (d x : Block) → series_sound d us x ≡ true → series_sound d after x ≡ true
  unfolding series_sound owner_sound partner_sound
  series_sound_beside d x q =
      let o = and_right _ _ (and_left _ _ q) in
      and_both _ _ (and_both _ _ (and_left _ _ (and_left _ _ q)) (rw (numbered_beside is_sender no_block_sender (senders_slot x) (and_left _ _ o)) o))
      (split (is (partner x) 0) (λ t. or_yes_left _ _ t) (λ t.
      let s : is_series (numbered us (partner x)) ≡ true = or_else _ _ (and_right _ _ q) t in
      or_yes_right _ _ (ap is_series (numbered_beside is_series no_block_series (partner x) s) ∙ s)))

  each_beside : (d : Block) → All (λ x. used_sound d us x ≡ true) us → right_sound d r ≡ true → All (λ x. used_sound d after x ≡ true) after
  each_beside d e k = all_append (λ x. used_sound d after x ≡ true) us (r ∷ [])
      (all_imply (λ x. used_sound d us x ≡ true) (λ x. used_sound d after x ≡ true)
      (λ x q. used_sound_by d after x (used_kind d us x q) (λ t. sym (sender_sound_beside d x) ∙ used_sender d us x q t)
      (λ t. series_sound_beside d x (used_series d us x q t)) (λ t. used_right d us x q t)) us e)
      (used_sound_by d after r (or_yes_right _ _ right) (λ t. clash t (right_not_sender r right)) (λ t. clash t (right_not_series r right)) (λ t. k), tt)

  -- no two clash
  apart_beside : (c : Block → Block → Bool) → apart c us ≡ true → All (λ x. c x r ≡ false) us → apart c after ≡ true
  unfolding apart every
  apart_beside c a f = apart_append c us (r ∷ []) a (and_both _ _ refl refl) (all_imply (λ x. c x r ≡ false) (λ x. All (λ y. c x y ≡ false) (r ∷ [])) (λ x e. (e, tt)) us f)

  no_same_sender : (x : Block) → same_sender x r ≡ false
  unfolding same_sender
  no_same_sender x = and_no_left _ _ (and_no_right _ _ (right_not_sender r right))

  no_same_series : (x : Block) → same_series x r ≡ false
  unfolding same_series
  no_same_series x = and_no_left _ _ (and_no_left _ _ (and_no_right _ _ (right_not_series r right)))

-- ---- a right entered

same_right_swap : (a b : Block) → same_right a b ≡ true → same_right b a ≡ true
unfolding same_right
same_right_swap a b e = and_both _ _ (and_both _ _ (and_right _ _ (and_left _ _ e)) (and_left _ _ (and_left _ _ e))) (same_swap (but_limits b) (but_limits a) ∙ and_right _ _ e)

module _ (book block : Bytes) (e : Enters book block) where
  abbrev now : List Block
  now = used book ++ block ∷ []

  now_length : length now ≡ length (used book) + 1
  now_length = length-append (used book) (block ∷ [])

  room : length (used book) + 1 < length book / 512
  unfolding used free_slots
  room = let h : 0 < free_slots book = e.room in let l : 2 ≤ length book / 512 = e.was.least in omega (arith, until_count is_free (slots book), slots_length book)

  rewrites : Rewrites book now
  rewrites = record {
    was = e.was;
    whole = all_append (λ x. length x ≡ 512) (used book) (block ∷ []) (used_lengths book) (e.whole, tt);
    live = all_append (λ x. (is_sender x or is_series x or is_right x) ≡ true) (used book) (block ∷ []) (used_live book e.was) (or_yes_right _ _ e.kind, tt);
    most = omega (arith, now_length);
    fits = omega (arith, now_length, room);
  }

  front_length : length (day_block book ++ join (used book)) ≡ 512 + 512 * length (used book)
  front_length = length-append (day_block book) (join (used book)) ∙ omega (arith, day_block_length book e.was, join_length 512 (used book) (used_lengths book))

  front : take (512 + 512 * length (used book)) book ≡ day_block book ++ join (used book)
  front = ap (take (512 + 512 * length (used book))) (sym (book_joined book)) ∙ take_at (day_block book ++ join (used book)) _ _ front_length

  pub result : entered book block ≡ rewritten book (used book ++ block ∷ [])
  unfolding join
  result =
      let o : ℕ = 512 + 512 * length (used book) in
      let k : o + length block ≡ 512 + 512 * length now = omega (arith, e.whole, now_length) in
      let h : o + length block ≤ length book = omega (arith, e.whole, room) in
      e.result ∙ written_take_drop o block book h
      ∙ ap₂ (λ a m. a ++ block ++ drop m book) front k
      ∙ ap (λ z. z ++ drop (512 + 512 * length now) book) (append_assoc (day_block book) (join (used book)) block
      ∙ ap (λ z. day_block book ++ z) (sym (join_append (used book) (block ∷ []) ∙ ap (λ z. join (used book) ++ z) (append-nil block))))

  pub used_entered : used (entered book block) ≡ used book ++ block ∷ []
  used_entered = ap used result ∙ used_rewritten book now rewrites

  pub day_block_entered : day_block (entered book block) ≡ day_block book
  day_block_entered = ap day_block result ∙ day_block_rewritten book now rewrites

  pub rest_entered : drop (512 + 512 * length (used (entered book block))) (entered book block) ≡ drop (512 + 512 * length (used (entered book block))) book
  rest_entered = rw (used_entered) (ap (drop (512 + 512 * length now)) result ∙ rest_rewritten book now rewrites)

  pub sound_entered : Sound (entered book block)
  sound_entered = rw result
      (sound_rewritten book now rewrites (all_append (λ x. check_right x ≡ true) (used book) (block ∷ []) (used_checks book e.was) (e.check, tt))
      (each_beside (used book) block e.kind (day_block book) e.was.each e.right)
      (apart_beside (used book) block e.kind same_sender e.was.senders (all_each (λ x. same_sender x block ≡ false) (no_same_sender (used book) block e.kind) (used book)))
      (apart_beside (used book) block e.kind same_series e.was.series (all_each (λ x. same_series x block ≡ false) (no_same_series (used book) block e.kind) (used book)))
      (apart_beside (used book) block e.kind same_right e.was.rights
      (all_imply (λ x. same_right block x ≡ false) (λ x. same_right x block ≡ false)
      (λ x n. split (same_right x block) (λ t. clash (same_right_swap x block t) n) (λ t. t)) (used book) (has_no_all (same_right block) (used book) e.once)))
      (all_append (λ x. differing_sound differing_allowed (n_of (day_block book)) x ≡ true) (used book) (block ∷ []) e.was.counts
      (count_allowed_lem (n_of (day_block book)) block (λ t. clash t (right_not_series block e.kind)), tt)))

  -- every slot that was used holds what it held
  pub others_stay : (slot : ℕ) (x : Block) → nth (used book) slot ≡ some x → nth (used (entered book block)) slot ≡ some x
  others_stay slot x h = ap (λ l. nth l slot) used_entered ∙ nth_append_left (used book) (block ∷ []) slot x h

pub entered_sound : (book block : Bytes) → enter_number book block ≡ 0 → sound (entered book block) ≡ true
entered_sound book block e = is_sound _ (sound_entered book block (enters book block e))

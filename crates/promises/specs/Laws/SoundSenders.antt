-- Soundness is kept by an acceptance, as to every sender: the message's has passed rules 3 to 6 and its nets are within range; every other block stays as it
-- was; and each count is the number of the sender's series, for the message's count was right and the others' series are what they were.
use Rattle.std.specs.Prelude.{◌≡◌, ◌≤◌}
use Rattle.laws.specs.Base.{refl, sym, ap, ◌∙◌, true, false, List, ℕ, arith, length}
use Rattle.laws.specs.Tests.{◌or◌}
use Rattle.laws.specs.Tests.Laws.{split, clash, and_left, and_right, and_both, or_no, is_yes, is_equal, upto_true}
use Rattle.laws.specs.Lists.{same, count, keep, total, All}
use Rattle.laws.specs.Lists.Same.{same_yes}
use Rattle.laws.specs.Lists.Each.{all_imply, all_both, all_map}
use Rattle.laws.specs.Lists.Count.{count_keep, length_total}
use Rattle.paper.specs.Layout.{Bytes, Block, n_of, area, series_count, sender, differing, quantity, with_senders_slot}
use Rattle.paper.specs.Ranges.{count_allowed}
use Rattle.paper.specs.Book.{day_block, used, is_sender, is_series, is_right, is_sender_block_of, slot_of, is_series_of}
use Rattle.paper.specs.Sound.{count_sound, sender_fields, sender_day_and_nets, sender_sound, series_sound, right_sound, used_sound}
use Rattle.paper.specs.Message.{head_of, series_of}
use Rattle.paper.specs.Acceptance.{sender_kept, used_after}
use Rattle.facts.specs.Layout.{sender_with_nets, n_with_nets, version_with_nets, series_count_with_nets, id_with_nets, receiver_with_nets, day_of_message_with_nets, sender_zeros_with_nets}
use Rattle.facts.specs.Book.{series_not_sender, sender_block_yes, series_of_other}
use Rattle.facts.specs.Sound.{day_n, used_sender}
use Rattle.facts.specs.Verdict.{series_some_few, Line, Accepts}
use Rattle.facts.specs.Remarking.{remarked_no_series, series_remarked}
use Rattle.facts.specs.Renewal.{Shape, shape, series_with_senders_slot, sender_kept_sender, sender_kept_no_series, renewed_sender, renewed_other, series_renewed, by_origin}
use Rattle.facts.specs.Senders.{slots_differ, slot_after_own, slot_after_other}
use Rattle.promises.specs.Laws.Parts.{own_of, after_of, parts}
use Rattle.promises.specs.Laws.ReadBack.{live_after}
use Rattle.promises.specs.Laws.SoundSeries.{each_series_kept}
use Rattle.promises.specs.Laws.SoundRights.{each_right_kept}
use Rattle.promises.specs.Laws.Sums.{total_own, total_other}
use Rattle.promises.specs.Laws.Nets.{nets_allowed_lem}

pub others_eic : (e : Bytes) (x : Block) → is_sender x ≡ true → is_sender_block_of e x ≡ false → same e (sender x) ≡ false
others_eic e x s n = split (same e (sender x)) (λ t. clash (sender_block_yes e x s (sym (same_yes _ _ t))) n) (λ t. t)

count_total_of : (i : ℕ) (l : List Block) → count (is_series_of i) l ≡ total (λ x. 1) (keep (is_series_of i) l)
count_total_of i l = count_keep (is_series_of i) l ∙ length_total (keep (is_series_of i) l)

module _ (book message : Bytes) (a : Accepts book message) where
  open parts book message use {d, ours, us, h, series, slot, again, now, put, after}

  c : Shape (used book) (head_of message) (series_of message)
  c = shape book message a

  n_few : n_of (day_block book) ≤ 100
  n_few = day_n d a.was.day

  -- the message's sender

  kept_fields : sender_fields d (sender_kept ours h series) ≡ true
  unfolding sender_fields sender_kept
  kept_fields =
      and_both _ _
      (rw (n_with_nets, version_with_nets, id_with_nets, sender_with_nets)
      (and_both _ _ (and_both _ _ (and_both _ _ (is_equal _ _ a.n_is) a.version_is_allowed) a.id_formed) a.sender_valid))
      (sender_zeros_with_nets _ h a.right.head_zeros)

  kept_day : sender_day_and_nets d (sender_kept ours h series) ≡ true
  unfolding sender_day_and_nets sender_kept
  kept_day =
      and_both _ _
      (rw (receiver_with_nets, day_of_message_with_nets) (and_both _ _ a.receiver_is a.day_is))
      (nets_allowed_lem ours (sender h) series h (n_of d) n_few c.head_whole (series_some_few message a.right).1
      (λ k t. all_imply (Line d (own_of book message) h) (λ x. quantity x k ≤ 9999999) (λ x l. l.small k (omega (arith, n_few)) t) series a.each)
      (λ k t f. all_imply (Line d (own_of book message) h) (λ x. quantity x k ≡ 0) (λ x l. l.above k t f) series a.each))

  kept_count : series_count (sender_kept ours h series) ≡ length series
  unfolding sender_kept
  kept_count = series_count_with_nets _ h ∙ a.right.head_count

  kept_count_sound : count_sound after (sender_kept ours h series) ≡ true
  unfolding count_sound count_allowed
  kept_count_sound =
      let f = series_some_few message a.right in
      and_both _ _ (and_both _ _ (upto_true _ _ (omega (arith, kept_count, f.0))) (upto_true _ _ (omega (arith, kept_count, f.1))))
      (is_equal _ _
      (kept_count ∙ length_total series ∙ sym (total_own book message a (λ x. 1) (λ x. refl) (λ x. refl)) ∙ sym (count_total_of slot after)
      ∙ ap (λ i. count (is_series_of i) after) (sym (ap (slot_of after) (sender_kept_sender ours us h series c) ∙ slot_after_own ours us h series c (n_of d)))))

  kept_sound : sender_sound d after (sender_kept ours h series) ≡ true
  unfolding sender_sound
  kept_sound = and_both _ _ (and_both _ _ kept_fields kept_day) kept_count_sound

  -- another sender

  other_count : (x : Block) → same (sender h) (sender x) ≡ false → count_sound us x ≡ true → count_sound after x ≡ true
  unfolding count_sound
  other_count x e k =
      and_both _ _ (and_left _ _ k)
      (is_equal _ _
      (is_yes _ _ (and_right _ _ k) ∙ count_total_of (slot_of us (sender x)) us
      ∙ sym (total_other book message a (λ x. 1) (λ x. refl) (λ x. refl) (slot_of us (sender x)) (slots_differ us (sender h) (sender x) e))
      ∙ sym (count_total_of (slot_of us (sender x)) after) ∙ ap (λ i. count (is_series_of i) after) (sym (slot_after_other ours us h series c (n_of d) (sender x) e))))

  other_sound : (x : Block) → same (sender h) (sender x) ≡ false → sender_sound d us x ≡ true → sender_sound d after x ≡ true
  unfolding sender_sound
  other_sound x e k = and_both _ _ (and_left _ _ k) (other_count x e (and_right _ _ k))

  -- a fact P of each sender after an acceptance: of the message's, and of every other's block, which stays as it was
  pub by_sender : (P : Block → Type 0) → P (sender_kept (area (day_block book)) (head_of message) (series_of message))
      → (Q : Block → Type 0) → All Q (used book) → ((x : Block) → Q x → is_sender x ≡ true → same (sender (head_of message)) (sender x) ≡ false → P x)
      → All (λ z. is_sender z ≡ true → P z) (after_of book message)
  unfolding used_after
  by_sender P p Q q f =
      all_map (λ z. is_sender z ≡ true → P z) put now
      (by_origin ours us h series c (λ z. is_sender (put z) ≡ true → P (put z)) (λ x. (used_sound d us x ≡ true) × Q x) (λ y. is_series y ≡ true)
      (all_both (λ x. used_sound d us x ≡ true) Q us a.was.each q) c.series_kind stored kept young)
    where
      kept : is_sender (put (sender_kept ours h series)) ≡ true → P (put (sender_kept ours h series))
      kept s = rw (remarked_no_series (n_of d) slot now (sender_kept ours h series) (sender_kept_no_series ours us h series c)) p

      no_series : (x : Block) → is_series x ≡ true → is_sender (put x) ≡ true → P (put x)
      no_series x r s = clash s (series_not_sender _ (series_remarked _ _ _ x ∙ r))

      young : (y : Block) → is_series y ≡ true → is_sender (put (with_senders_slot slot y)) ≡ true → P (put (with_senders_slot slot y))
      young y r = no_series (with_senders_slot slot y) (series_with_senders_slot slot y ∙ r)

      stored : (x : Block) → (used_sound d us x ≡ true) × Q x → is_sender (put (again x)) ≡ true → P (put (again x))
      stored x r = split (is_sender_block_of (sender h) x)
          (λ t. rw (renewed_sender ours us h series c x t) kept)
          (λ t. split (is_series x)
          (λ u. no_series (again x) (series_renewed ours us h series c x ∙ u))
          (λ u.
          rw (renewed_other ours us h series c x t (series_of_other slot x u), remarked_no_series (n_of d) slot now x u) (λ v. f x r.1 v (others_eic (sender h) x v t))))

  each_sender_kept : All (λ z. is_sender z ≡ true → sender_sound d after z ≡ true) after
  each_sender_kept = by_sender (λ z. sender_sound d after z ≡ true) kept_sound (λ x. used_sound d us x ≡ true) a.was.each
      (λ x q s e. other_sound x e (used_sender d us x q s))

-- ---- every block

pub used_sound_by : (d : Block) (l : List Block) (z : Block) → (is_sender z or is_series z or is_right z) ≡ true → (is_sender z ≡ true → sender_sound d l z ≡ true) →
    (is_series z ≡ true → series_sound d l z ≡ true) → (is_right z ≡ true → right_sound d z ≡ true) → used_sound d l z ≡ true
unfolding used_sound
used_sound_by d l z k f g r = split (is_sender z) (λ t. rw t (f t)) (λ t. split (is_right z)
    (λ u. rw (t, u) (r u))
    (λ u.
    let s : is_series z ≡ true = split (is_series z) (λ v. v) (λ v. clash k (or_no _ _ (or_no _ _ t v) u)) in
    rw (t, u) (and_both _ _ s (g s))))

pub each_kept : (book message : Bytes) → Accepts book message → All (λ z. used_sound (day_block book) (after_of book message) z ≡ true) (after_of book message)
each_kept book message a =
    all_imply (λ z. ((is_sender z or is_series z or is_right z) ≡ true) × ((is_sender z ≡ true → sender_sound d l z ≡ true) × (Series z × Right z)))
    (λ z. used_sound d l z ≡ true) (λ z q. used_sound_by d l z q.0 q.1.0 (λ s. (q.1.1.0 s).0) q.1.1.1) l
    (all_both (λ z. (is_sender z or is_series z or is_right z) ≡ true) (λ z. (is_sender z ≡ true → sender_sound d l z ≡ true) × (Series z × Right z)) l
    (live_after book message a)
    (all_both (λ z. is_sender z ≡ true → sender_sound d l z ≡ true) (λ z. Series z × Right z) l (each_sender_kept book message a)
    (all_both Series Right l (each_series_kept book message a) (each_right_kept book message a))))
  where
    d : Block
    d = day_block book

    l : List Block
    l = after_of book message

    Series : Block → Type 0
    Series z = is_series z ≡ true → (series_sound d l z ≡ true) × (differing z ≤ n_of d)

    Right : Block → Type 0
    Right z = is_right z ≡ true → right_sound d z ≡ true

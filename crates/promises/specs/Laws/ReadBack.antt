-- What an acceptance writes is read back as the blocks that it was made of: they are whole blocks, each a sender's, a series or a right, there is room for them, and none of
-- the used slots is given up.
use Rattle.std.specs.Prelude.{◌≡◌, ◌/◌, ◌≤◌, ◌<◌}
use Rattle.laws.specs.Base.{◌∙◌, true, false, List, ℕ, arith, length, length-map}
use Rattle.laws.specs.Tests.{◌or◌}
use Rattle.laws.specs.Tests.Laws.{split, or_yes_left, or_yes_right}
use Rattle.laws.specs.Lists.{All}
use Rattle.laws.specs.Lists.Each.{all_imply, all_map}
use Rattle.paper.specs.Layout.{Bytes, Block, n_of, area, sender}
use Rattle.paper.specs.Book.{day_block, used, is_sender, is_series, is_right, is_sender_block_of}
use Rattle.paper.specs.Message.{head_of, series_of}
use Rattle.paper.specs.Acceptance.{slot_for, renewed, placed, remarked, used_after, accepted}
use Rattle.facts.specs.Book.{series_of_other, slots_length, used_lengths}
use Rattle.facts.specs.Verdict.{Accepts}
use Rattle.facts.specs.Renewal.{Shape, shape, series_with_senders_slot, sender_kept_is_sender, sender_kept_no_series, renewed_sender, renewed_other, series_renewed, by_origin, placed_lengths, placed_fits, placed_length}
use Rattle.facts.specs.Remarking.{remarked_no_series, series_remarked, remarked_length}
use Rattle.promises.specs.Laws.Parts.{after_of}
use Rattle.promises.specs.Laws.Rewritten.{used_live, Rewrites, used_rewritten, day_block_rewritten}

-- ---- each block is a sender's, a series or a right

module _ (ours : Bytes) (us : List Block) (h : Block) (series : List Block) (c : Shape us h series) (n : ℕ) where
  abbrev put : Block → Block
  put = remarked n (slot_for us (sender h)) (placed ours us h series)

  live_series : (x : Block) → is_series x ≡ true → (is_sender (put x) or is_series (put x) or is_right (put x)) ≡ true
  live_series x s = or_yes_left _ _ (or_yes_right _ _ (series_remarked n _ _ x ∙ s))

  live_other : (x : Block) → is_series x ≡ false → (is_sender x or is_series x or is_right x) ≡ true → (is_sender (put x) or is_series (put x) or is_right (put x)) ≡ true
  live_other x s t = rw (remarked_no_series n _ _ x s) t

  live_sender : (x : Block) → is_series x ≡ false → is_sender x ≡ true → (is_sender (put x) or is_series (put x) or is_right (put x)) ≡ true
  live_sender x s t = live_other x s (or_yes_left _ _ (or_yes_left _ _ t))

  pub after_live : All (λ x. (is_sender x or is_series x or is_right x) ≡ true) us → All (λ x. (is_sender x or is_series x or is_right x) ≡ true) (used_after n ours us h series)
  unfolding used_after
  after_live l =
      all_map (λ x. (is_sender x or is_series x or is_right x) ≡ true) put (placed ours us h series)
      (by_origin ours us h series c (λ x. (is_sender (put x) or is_series (put x) or is_right (put x)) ≡ true) (λ x. (is_sender x or is_series x or is_right x) ≡ true) (λ y. is_series y ≡ true) l
      c.series_kind
      old (live_sender _ (sender_kept_no_series ours us h series c) (sender_kept_is_sender ours us h series c)) (λ y s. live_series _ (series_with_senders_slot _ y ∙ s)))
    where
      old : (x : Block) → (is_sender x or is_series x or is_right x) ≡ true → (is_sender (put (renewed ours (slot_for us (sender h)) h series x)) or is_series
          (put (renewed ours (slot_for us (sender h)) h series x)) or is_right (put (renewed ours (slot_for us (sender h)) h series x))) ≡ true
      old x q = split (is_series x)
          (λ s. live_series _ (series_renewed ours us h series c x ∙ s))
          (λ s. split (is_sender_block_of (sender h) x)
          (λ t. rw (renewed_sender ours us h series c x t) (live_sender _ (sender_kept_no_series ours us h series c) (sender_kept_is_sender ours us h series c)))
          (λ t. rw (renewed_other ours us h series c x t (series_of_other _ x s)) (live_other x s q)))

  after_lengths : All (λ x. length x ≡ 512) us → All (λ x. length x ≡ 512) (used_after n ours us h series)
  unfolding used_after
  after_lengths l = all_map (λ x. length x ≡ 512) put (placed ours us h series)
      (all_imply (λ x. length x ≡ 512) (λ x. length (put x) ≡ 512) (λ x e. remarked_length n _ _ x ∙ e) (placed ours us h series) (placed_lengths ours us h series c l))

-- ---- of an accepted message

module _ (book message : Bytes) (a : Accepts book message) where
  pub live_after : All (λ x. (is_sender x or is_series x or is_right x) ≡ true) (after_of book message)
  live_after = after_live (area (day_block book)) (used book) (head_of message) (series_of message) (shape book message a) (n_of (day_block book)) (used_live book a.was)

  after_length : length (after_of book message) ≡ length (placed (area (day_block book)) (used book) (head_of message) (series_of message))
  unfolding used_after
  after_length = length-map (placed (area (day_block book)) (used book) (head_of message) (series_of message)) _

  pub after_fits : length (after_of book message) < length book / 512
  after_fits = let r : 2 ≤ length book / 512 = a.was.least in omega (arith, after_length, placed_fits book message a, slots_length book)

  pub rewrites : Rewrites book (after_of book message)
  rewrites = record {
    was = a.was;
    whole = after_lengths (area (day_block book)) (used book) (head_of message) (series_of message) (shape book message a) (n_of (day_block book)) (used_lengths book);
    live = live_after;
    most = omega (arith, after_length, placed_length (area (day_block book)) (used book) (head_of message) (series_of message));
    fits = after_fits;
  }

  pub used_accepted : used (accepted book message) ≡ after_of book message
  unfolding accepted
  used_accepted = used_rewritten book (after_of book message) rewrites

  pub day_block_accepted : day_block (accepted book message) ≡ day_block book
  unfolding accepted
  day_block_accepted = day_block_rewritten book (after_of book message) rewrites

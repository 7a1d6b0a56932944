-- No block moves: after an acceptance a slot that was used holds the block that it held, renewed and marked, and the sender stands in its slot.
use Rattle.std.specs.Prelude.{◌≡◌, ◌/◌, ◌≤◌, ◌<◌}
use Rattle.laws.specs.Base.{ap, ◌∙◌, true, map, ℕ, zero, arith, length, length-append, length-map}
use Rattle.laws.specs.Tests.Laws.{split}
use Rattle.laws.specs.Lists.{has}
use Rattle.paper.specs.Layout.{Bytes, n_of, sender}
use Rattle.paper.specs.Book.{day_block, used, is_sender, is_series, numbered, is_sender_block_of, slot_of}
use Rattle.paper.specs.Message.{head_of, series_of}
use Rattle.paper.specs.Acceptance.{fresh, placed, used_after}
use Rattle.facts.specs.Book.{no_block_sender, no_block_series, sender_block_own, numbered_map, numbered_append_left, numbered_inside, numbered_place}
use Rattle.facts.specs.Verdict.{Accepts}
use Rattle.facts.specs.Remarking.{series_remarked, sender_block_remarked}
use Rattle.facts.specs.Renewal.{Shape, shape, series_renewed, sender_block_renewed}
use Rattle.facts.specs.Senders.{slot_for_known, slot_for_new, slot_of_none, slot_of_positive, slot_after_own}
use Rattle.promises.specs.Laws.Parts.{sender_slot, placed_of, after_of, parts}
use Rattle.promises.specs.Laws.ReadBack.{after_fits}

module _ (book message : Bytes) (a : Accepts book message) where
  open parts book message use {ours, us, h, series, again, now, put, after}

  c : Shape (used book) (head_of message) (series_of message)
  c = shape book message a

  placed_most : length us ≤ length now
  unfolding placed
  placed_most = omega (arith, length-append (map again us) (fresh ours us h series), length-map us again)

  placed_after : length after ≡ length now
  unfolding used_after
  placed_after = length-map now put

  pub placed_few : length (placed_of book message) < 65536
  placed_few = let m : length book / 512 ≤ 1001 = a.was.most in omega (arith, placed_after, after_fits book message a)

  numbered_after : (i : ℕ) → zero < i → i ≤ length now → numbered after i ≡ put (numbered now i)
  unfolding used_after
  numbered_after i p q = numbered_map put now i p q

  numbered_placed : (i : ℕ) → zero < i → i ≤ length us → numbered now i ≡ again (numbered us i)
  unfolding placed
  numbered_placed i p q = numbered_append_left (map again us) (fresh ours us h series) i (omega (arith, length-map us again)) ∙ numbered_map again us i p q

  numbered_stored : (i : ℕ) → zero < i → i ≤ length us → numbered after i ≡ put (again (numbered us i))
  numbered_stored i p q = numbered_after i p (omega (arith, placed_most)) ∙ ap put (numbered_placed i p q)

  -- a series stays a series
  pub series_placed : (i : ℕ) → is_series (numbered (placed_of book message) i) ≡ true → is_series (numbered (after_of book message) i) ≡ true
  series_placed i e = let r = numbered_inside now i is_series no_block_series e in ap is_series (numbered_after i r.0 r.1) ∙ series_remarked _ _ _
      (numbered now i) ∙ e

  pub series_stored : (i : ℕ) → is_series (numbered (used book) i) ≡ true → is_series (numbered (after_of book message) i) ≡ true
  series_stored i e =
      let r = numbered_inside us i is_series no_block_series e in
      ap is_series (numbered_stored i r.0 r.1) ∙ series_remarked _ _ _ (again (numbered us i)) ∙ series_renewed ours us h series c (numbered us i) ∙ e

  -- a sender stays the same sender
  pub sender_stored : (i : ℕ) → is_sender (numbered (used book) i) ≡ true → is_sender_block_of (sender (numbered (used book) i))
      (numbered (after_of book message) i) ≡ true
  sender_stored i e =
      let r = numbered_inside us i is_sender no_block_sender e in
      ap (is_sender_block_of (sender (numbered us i))) (numbered_stored i r.0 r.1) ∙ sender_block_remarked _ _ _ (sender (numbered us i)) (again (numbered us i))
      ∙ sender_block_renewed ours us h series c (sender (numbered us i)) (numbered us i) ∙ sender_block_own (numbered us i) e

  -- the message's sender stands in its slot
  slot_positive : zero < sender_slot book message
  slot_positive = split (has (is_sender_block_of (sender h)) us) (λ t. omega (arith, slot_for_known us (sender h) t, slot_of_positive us (sender h) t))
      (λ t. omega (arith, slot_for_new us (sender h) t))

  pub sender_there : is_sender_block_of (sender (head_of message)) (numbered (after_of book message) (sender_slot book message)) ≡ true
  unfolding slot_of
  sender_there = split (has (is_sender_block_of (sender h)) after)
      (λ t. rw (slot_after_own ours us h series c (n_of (day_block book))) at (numbered_place (is_sender_block_of (sender h)) after t))
      (λ t. absurd (omega (arith, slot_of_none after (sender h) t, slot_positive, slot_after_own ours us h series c (n_of (day_block book)))))

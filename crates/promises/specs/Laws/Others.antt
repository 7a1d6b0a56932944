-- An acceptance renews the sender's own blocks alone, and marks anew besides these only trades with a pair of the sender's trades, which are their counterparts: any
-- other block keeps its slot and every byte; and nothing is written before the used slots or behind them.
use Rattle.std.specs.Prelude.{◌≡◌, ◌++◌, ◌+◌, ◌*◌}
use Rattle.laws.specs.Base.{refl, sym, ap, ◌∙◌, true, false, some, option_map, List, map, ℕ, length, drop}
use Rattle.laws.specs.Tests.{◌and◌, is}
use Rattle.laws.specs.Tests.Laws.{split, clash, and_left, and_right, and_both, and_no, and_no_left, or_else, is_no}
use Rattle.laws.specs.Lists.{nth, has}
use Rattle.laws.specs.Lists.Each.{all_nth, nth_append_left, nth_map}
use Rattle.laws.specs.Lists.Search.{has_yes, find_passes, find_has_other, has_map_each}
use Rattle.paper.specs.Layout.{Bytes, Block, n_of, sender, senders_slot}
use Rattle.paper.specs.Book.{day_block, used, is_series, is_right, is_sender_block_of, slot_of, trade, is_series_of, is_trade_of}
use Rattle.paper.specs.Message.{head_of, series_of}
use Rattle.paper.specs.Marks.{is_counterpart}
use Rattle.paper.specs.Acceptance.{fresh, placed, touched, remarked, used_after, accepted}
use Rattle.facts.specs.Layout.{part_with_mark_before, part_with_mark_after}
use Rattle.facts.specs.Book.{right_not_sender, right_not_series, series_of_other}
use Rattle.facts.specs.Verdict.{Accepts}
use Rattle.facts.specs.Pairs.{trade_swap, trade_of_own, trade_of_trade, trade_of_kept, counterpart_yes}
use Rattle.facts.specs.Renewal.{Shape, shape, renewed_other}
use Rattle.facts.specs.Remarking.{mark_in_length, remarked_touched, remarked_untouched, remarked_no_series, remarked_keeps}
use Rattle.facts.specs.Senders.{owned, own_by_slot_for, slot_after_own}
use Rattle.promises.specs.Laws.Parts.{parts}
use Rattle.promises.specs.Laws.Rewritten.{rest_rewritten}
use Rattle.promises.specs.Laws.ReadBack.{rewrites, used_accepted}
use Rattle.promises.specs.Words.{ButMark, is_counterpart_of}

but_mark_remarked : (n slot : ℕ) (l : List Block) (x : Block) → ButMark x (remarked n slot l x)
but_mark_remarked n slot l x = split (touched slot l x)
    (λ t. rw (remarked_touched n slot l x t)
    (record { before_mark = λ o n h. part_with_mark_before _ o n x h; after_mark = λ o k h f. part_with_mark_after _ o k x (mark_in_length n l x) h f }))
    (λ t. rw (remarked_untouched n slot l x t) (record { before_mark = λ o n h. refl; after_mark = λ o n h f. refl }))

touched_trade : (slot : ℕ) (l : List Block) (x : Block) → is_series_of slot x ≡ false → touched slot l x ≡ true → (is_series x ≡ true) ×
    (is (senders_slot x) slot ≡ false) × (has (is_trade_of slot (trade x)) l ≡ true)
unfolding touched is_series_of
touched_trade slot l x o t = let n : is (senders_slot x) slot ≡ false = and_no _ _ o (and_left _ _ t) in (and_left _ _ t, n, or_else _ _ (and_right _ _ t) n)

module _ (book message : Bytes) (a : Accepts book message) where
  open parts book message use {ours, us, h, series, slot, again, now, put, after}

  c : Shape (used book) (head_of message) (series_of message)
  c = shape book message a

  -- a series that is marked anew and not the sender's is the counterpart of one of the sender's
  touched_counterpart : (x : Block) → is_series_of slot x ≡ false → touched slot now x ≡ true → is_counterpart_of after (sender h) x ≡ true
  unfolding is_counterpart_of used_after
  touched_counterpart x o t =
      let q = touched_trade slot now x o t in
      let r = has_yes (is_trade_of slot (trade x)) after (has_map_each put (is_trade_of slot (trade x)) (is_trade_of slot (trade x))
      (trade_of_kept put (remarked_keeps _ _ _) slot (trade x)) now ∙ q.2) in
      let z : Block = r.0 in
      let m : is_trade_of slot (trade x) z ≡ true = find_passes _ after z r.1 in
      rw (slot_after_own ours us h series c (n_of (day_block book)))
      (find_has_other (is_trade_of slot (trade x)) (λ y. is_series_of slot y and is_counterpart slot (trade y) x) after z r.1
      (and_both _ _ (trade_of_own slot (trade x) z m) (counterpart_yes slot (trade z) x q.0 (is_no _ _ q.1) (trade_swap z x ∙ trade_of_trade slot (trade x) z m))))

  module _ (i : ℕ) (x : Block) (there : nth (used book) i ≡ some x)
      (no_sender : is_sender_block_of (sender (head_of message)) x ≡ false) (no_series : is_series_of (slot_of (used book) (sender (head_of message))) x ≡ false) where
    not_own : is_series_of slot x ≡ false
    not_own = all_nth (λ z. is_series_of slot z ≡ is_series_of (slot_of us (sender h)) z) us i x (own_by_slot_for us (owned book a.was) (sender h)) there ∙ no_series

    in_slot : nth after i ≡ some (put x)
    unfolding used_after placed
    in_slot =
        nth_map put (map again us ++ fresh ours us h series) i
        ∙ ap (option_map put) (nth_append_left (map again us) (fresh ours us h series) i x (nth_map again us i ∙ ap (option_map again) there ∙ ap some
        (renewed_other ours us h series c x no_sender not_own)))

    pub others_kept : (y : Block) × (nth (used (accepted book message)) i ≡ some y) × ButMark x y
        × (is_counterpart_of (used (accepted book message)) (sender (head_of message)) x ≡ false → y ≡ x)
    others_kept = (
      put x,
      ap (λ l. nth l i) (used_accepted book message a) ∙ in_slot,
      but_mark_remarked _ _ _ x,
      λ n. remarked_untouched _ _ _ x (split (touched slot now x) (λ t. clash (touched_counterpart x not_own t) (rw (used_accepted book message a) at n)) (λ t. t)),
    )

  no_senders_block : (e : Bytes) (r : Block) → is_right r ≡ true → is_sender_block_of e r ≡ false
  unfolding is_sender_block_of
  no_senders_block e r t = and_no_left _ _ (right_not_sender r t)

  -- a right is neither renewed nor marked
  pub right_kept : (i : ℕ) (r : Block) → nth (used book) i ≡ some r → is_right r ≡ true → nth (used (accepted book message)) i ≡ some r
  right_kept i r there t =
      let s : is_series r ≡ false = right_not_series r t in
      ap (λ l. nth l i) (used_accepted book message a) ∙ in_slot i r there (no_senders_block _ r t) (series_of_other _ r s) ∙ ap some (remarked_no_series _ _ _ r s)

  pub rest_kept : drop (512 + 512 * length (used (accepted book message))) (accepted book message) ≡ drop (512 + 512 * length (used (accepted book message))) book
  unfolding accepted
  rest_kept = rw (used_accepted book message a) (rest_rewritten book after (rewrites book message a))

-- Soundness is kept by an acceptance, as to checks: every block that is written is sealed, every other stays as it was.
use Rattle.std.specs.Prelude.{◌≡◌}
use Rattle.laws.specs.Base.{◌∙◌, true, false, List, ℕ, length}
use Rattle.laws.specs.Tests.Laws.{split, clash}
use Rattle.laws.specs.Lists.{All}
use Rattle.laws.specs.Lists.Each.{all_both, all_map}
use Rattle.laws.specs.Bytes.Laws.{written_length}
use Rattle.paper.specs.Check.{check_right}
use Rattle.paper.specs.Layout.{Bytes, Block, n_of, area, sender, with_mark, with_nets}
use Rattle.paper.specs.Book.{day_block, used, is_series, is_sender_block_of, is_series_of}
use Rattle.paper.specs.Message.{head_of, series_of}
use Rattle.paper.specs.Acceptance.{slot_for, sender_kept, renewed, placed, touched, remarked, used_after}
use Rattle.facts.specs.Check.{sealed_right}
use Rattle.facts.specs.Layout.{with_senders_slot_length}
use Rattle.facts.specs.Book.{series_of_series, series_of_slot, used_lengths}
use Rattle.facts.specs.Verdict.{Accepts}
use Rattle.facts.specs.Remarking.{remarked_touched, remarked_untouched}
use Rattle.facts.specs.Renewal.{Shape, shape, series_with_senders_slot, sender_kept_length, renewed_sender, renewed_other, series_renewed, renewed_keeps, renewed_length, adopted, by_origin}
use Rattle.promises.specs.Laws.Marks.{own_touched}
use Rattle.promises.specs.Laws.Parts.{after_of}
use Rattle.promises.specs.Laws.Rewritten.{used_right}

-- ---- what is written is sealed

pub with_mark_right : (m : Bytes) (x : Block) → length x ≡ 512 → check_right (with_mark m x) ≡ true
unfolding with_mark
with_mark_right m x e = sealed_right _ (written_length 104 m x ∙ e)

pub with_nets_right : (v : Bytes) (s : Block) → length s ≡ 512 → check_right (with_nets v s) ≡ true
unfolding with_nets
with_nets_right v s e = sealed_right _ (written_length 108 v s ∙ e)

remarked_right : (n slot : ℕ) (l : List Block) (x : Block) → length x ≡ 512 → (touched slot l x ≡ false → check_right x ≡ true) → check_right
    (remarked n slot l x) ≡ true
remarked_right n slot l x s f = split (touched slot l x) (λ t. rw (remarked_touched n slot l x t) (with_mark_right _ x s)) (λ t. rw (remarked_untouched n slot l x t)
    (f t))

module _ (ours : Bytes) (us : List Block) (h : Block) (series : List Block) (c : Shape us h series) (n : ℕ) where
  abbrev slot : ℕ
  slot = slot_for us (sender h)

  abbrev again : Block → Block
  again = renewed ours (slot_for us (sender h)) h series

  abbrev now : List Block
  now = placed ours us h series

  sender_kept_right : check_right (sender_kept ours h series) ≡ true
  unfolding sender_kept
  sender_kept_right = with_nets_right _ h c.head_whole

  stored_right : (x : Block) → (length x ≡ 512) × (check_right x ≡ true) → check_right (remarked n slot now (again x)) ≡ true
  stored_right x q = remarked_right n slot now (again x) (renewed_length ours us h series c x q.0) (λ u.
      split (is_sender_block_of (sender h) x)
      (λ t. rw (renewed_sender ours us h series c x t) sender_kept_right)
      (λ t. split (is_series_of slot x)
      (λ v. let s : is_series x ≡ true = series_of_series slot x v in
      clash (own_touched slot now (again x) (series_renewed ours us h series c x ∙ s) ((renewed_keeps ours us h series c).slot x s ∙ series_of_slot slot x v)) u)
      (λ v. rw (renewed_other ours us h series c x t v) q.1)))

  after_right : All (λ x. length x ≡ 512) us → All (λ x. check_right x ≡ true) us → All (λ x. check_right x ≡ true) (used_after n ours us h series)
  unfolding used_after
  after_right l r =
      all_map (λ x. check_right x ≡ true) (remarked n slot now) now
      (by_origin ours us h series c (λ x. check_right (remarked n slot now x) ≡ true) (λ x. (length x ≡ 512) × (check_right x ≡ true))
      (λ y. (length y ≡ 512) × (is_series y ≡ true))
      (all_both (λ x. length x ≡ 512) (λ x. check_right x ≡ true) us l r) (all_both (λ y. length y ≡ 512) (λ y. is_series y ≡ true) series c.series_whole
      c.series_kind)
      stored_right (remarked_right n slot now _ (sender_kept_length ours us h series c) (λ u. sender_kept_right))
      (λ y q. remarked_right n slot now _ (with_senders_slot_length slot y ∙ q.0)
      (λ u. clash (own_touched slot now _ (series_with_senders_slot slot y ∙ q.1) (adopted ours us h series c y q.0)) u)))

-- ---- of an accepted message

pub checks_kept : (book message : Bytes) → Accepts book message → All (λ x. check_right x ≡ true) (after_of book message)
checks_kept book message a =
    after_right (area (day_block book)) (used book) (head_of message) (series_of message) (shape book message a) (n_of (day_block book)) (used_lengths book) (used_right book a.was)

-- True nets stay true: the nets kept for the message's sender are summed over the message, and its stored series are then the message's; another sender's block
-- and series stay.
use Rattle.std.specs.Prelude.{◌≡◌, ◌<◌}
use Rattle.laws.specs.Base.{refl, sym, ap, ap₂, ◌∙◌, true, false, cond, Option, none, some, option_map, List, map, ℕ, arith}
use Rattle.laws.specs.Tests.{is}
use Rattle.laws.specs.Tests.Laws.{split}
use Rattle.laws.specs.Lists.{same, find, has, keep, All}
use Rattle.laws.specs.Lists.Same.{same_yes, same_no}
use Rattle.laws.specs.Lists.Search.{has_yes, find_passes, find_append_first, find_append_second, find_append_only, has_map_each, find_map}
use Rattle.paper.specs.Layout.{Bytes, Block, n_of, area, sender, nets, quantity, with_senders_slot}
use Rattle.paper.specs.Book.{day_block, used, is_sender, is_series, is_sender_block_of, slot_of, is_series_of, own_series}
use Rattle.paper.specs.Message.{head_of, series_of}
use Rattle.paper.specs.Nets.{comes_in, goes_out, bought, sold, nets_of}
use Rattle.paper.specs.Acceptance.{sender_kept, fresh, placed, used_after}
use Rattle.facts.specs.Layout.{part_with_nets_before, nets_with_nets, Alike, alike_senders_slot, alike_quantity}
use Rattle.facts.specs.Book.{sender_not_series, sender_block_sender, sender_block_eic, sender_block_yes, series_of_other}
use Rattle.facts.specs.Verdict.{Accepts}
use Rattle.facts.specs.Renewal.{Shape, shape, sender_kept_sender, sender_kept_is_sender, renewed_sender, renewed_other, sender_block_renewed}
use Rattle.facts.specs.Remarking.{remarked_no_series, alike_remarked, sender_block_remarked}
use Rattle.facts.specs.Senders.{slots_differ, fresh_new, fresh_no_sender_block, slot_after_own, slot_after_other}
use Rattle.facts.specs.Nets.{alike_comes_in, alike_goes_out, nets_of_length, nets_agree}
use Rattle.promises.specs.Laws.Parts.{after_of, parts}
use Rattle.promises.specs.Laws.SoundSenders.{by_sender}
use Rattle.promises.specs.Laws.Sums.{total_own, total_other}
use Rattle.promises.specs.Words.{head_content}

unfoldable pub NetsTrue : (ours : Bytes) (us : List Block) → Type 0
NetsTrue ours us = All (λ s. is_sender s ≡ true → nets s ≡ nets_of ours (sender s) (own_series us (sender s))) us

-- the share of a series in a sum, the same for series that agree but for sender's slot and mark
pub share_in : (ours e : Bytes) (k : ℕ) (x y : Block) → k < 100 → Alike x y → cond (comes_in ours e x) (quantity x k) 0 ≡ cond (comes_in ours e y) (quantity y k) 0
share_in ours e k x y h a = rw (alike_comes_in ours e x y a, alike_quantity x y a k h)

pub share_out : (ours e : Bytes) (k : ℕ) (x y : Block) → k < 100 → Alike x y → cond (goes_out ours e x) (quantity x k) 0 ≡ cond (goes_out ours e y) (quantity y k) 0
share_out ours e k x y h a = rw (alike_goes_out ours e x y a, alike_quantity x y a k h)

module _ (book message : Bytes) (a : Accepts book message) where
  open parts book message use {ours, us, h, series, slot, again, now, put, after}

  c : Shape (used book) (head_of message) (series_of message)
  c = shape book message a

  nets_sender_kept : nets (sender_kept ours h series) ≡ nets_of ours (sender h) series
  unfolding sender_kept
  nets_sender_kept = nets_with_nets (nets_of ours (sender h) series) h (nets_of_length ours (sender h) series) c.head_whole

  -- ---- by sums

  nets_own : (e : Bytes) → nets_of ours e series ≡ nets_of ours e (keep (is_series_of slot) after)
  unfolding bought sold
  nets_own e = nets_agree ours e series (keep (is_series_of slot) after) (λ k t. (
    sym (total_own book message a (λ x. cond (comes_in ours e x) (quantity x k) 0) (λ x. share_in ours e k (put x) x t (alike_remarked _ _ _ x))
        (λ x. share_in ours e k (with_senders_slot slot x) x t (alike_senders_slot slot x))),
    sym (total_own book message a (λ x. cond (goes_out ours e x) (quantity x k) 0) (λ x. share_out ours e k (put x) x t (alike_remarked _ _ _ x))
        (λ x. share_out ours e k (with_senders_slot slot x) x t (alike_senders_slot slot x))),
  ))

  nets_other : (e : Bytes) (i : ℕ) → is i slot ≡ false → nets_of ours e (keep (is_series_of i) us) ≡ nets_of ours e (keep (is_series_of i) after)
  unfolding bought sold
  nets_other e i f = nets_agree ours e (keep (is_series_of i) us) (keep (is_series_of i) after) (λ k t. (
    sym (total_other book message a (λ x. cond (comes_in ours e x) (quantity x k) 0) (λ x. share_in ours e k (put x) x t (alike_remarked _ _ _ x))
        (λ x. share_in ours e k (with_senders_slot slot x) x t (alike_senders_slot slot x)) i f),
    sym (total_other book message a (λ x. cond (goes_out ours e x) (quantity x k) 0) (λ x. share_out ours e k (put x) x t (alike_remarked _ _ _ x))
        (λ x. share_out ours e k (with_senders_slot slot x) x t (alike_senders_slot slot x)) i f),
  ))

  -- ---- of each sender

  pub nets_kept : NetsTrue (area (day_block book)) (used book) → NetsTrue (area (day_block book)) (after_of book message)
  unfolding NetsTrue own_series
  nets_kept n =
      by_sender book message a (λ s. nets s ≡ nets_of ours (sender s) (keep (is_series_of (slot_of after (sender s))) after))
      (nets_sender_kept ∙ nets_own (sender h)
      ∙ ap₂ (λ e i. nets_of ours e (keep (is_series_of i) after)) (sym (sender_kept_sender ours us h series c))
      (sym (ap (slot_of after) (sender_kept_sender ours us h series c) ∙ slot_after_own ours us h series c (n_of (day_block book)))))
      (λ s. is_sender s ≡ true → nets s ≡ nets_of ours (sender s) (keep (is_series_of (slot_of us (sender s))) us)) n
      (λ x q s e. q s ∙ nets_other (sender x) (slot_of us (sender x)) (slots_differ us (sender h) (sender x) e)
      ∙ ap (λ i. nets_of ours (sender x) (keep (is_series_of i) after)) (sym (slot_after_other ours us h series c (n_of (day_block book)) (sender x) e)))

  -- ---- by EIC

  no_series : (e : Bytes) (x : Block) → is_sender_block_of e x ≡ true → is_series x ≡ false
  no_series e x t = sender_not_series x (sender_block_sender e x t)

  find_marked : (e : Bytes) → find (is_sender_block_of e) after ≡ find (is_sender_block_of e) now
  unfolding used_after
  find_marked e = find_map put (is_sender_block_of e) (is_sender_block_of e) (sender_block_remarked _ _ _ e) now ∙ stays (find (is_sender_block_of e) now) refl
    where
      stays : (o : Option Block) → find (is_sender_block_of e) now ≡ o → option_map put o ≡ o
      stays none f = refl
      stays (some x) f = ap some (remarked_no_series _ _ _ x (no_series e x (find_passes _ now x f)))

  find_renewed : (e : Bytes) → find (is_sender_block_of e) (map again us) ≡ option_map again (find (is_sender_block_of e) us)
  find_renewed e = find_map again (is_sender_block_of e) (is_sender_block_of e) (sender_block_renewed ours us h series c e) us

  find_own : find (is_sender_block_of (sender h)) now ≡ some (sender_kept ours h series)
  unfolding placed find
  find_own = split (has (is_sender_block_of (sender h)) us)
      (λ t.
      let q = has_yes (is_sender_block_of (sender h)) us t in
      find_append_first (is_sender_block_of (sender h)) (map again us) (fresh ours us h series) (sender_kept ours h series)
      (find_renewed (sender h) ∙ ap (option_map again) q.1 ∙ ap some (renewed_sender ours us h series c q.0 (find_passes _ us q.0 q.1))))
      (λ t. find_append_second (is_sender_block_of (sender h)) (map again us) (fresh ours us h series) (has_map_each again (is_sender_block_of (sender h))
      (is_sender_block_of (sender h)) (sender_block_renewed ours us h series c (sender h)) us ∙ t)
      ∙ ap (find (is_sender_block_of (sender h))) (fresh_new ours us h series t)
      ∙ rw (sender_block_yes (sender h) (sender_kept ours h series) (sender_kept_is_sender ours us h series c) (sender_kept_sender ours us h series c)))

  find_other : (e : Bytes) → same (sender h) e ≡ false → find (is_sender_block_of e) now ≡ find (is_sender_block_of e) us
  unfolding placed
  find_other e d = find_append_only (is_sender_block_of e) (map again us) (fresh ours us h series) (fresh_no_sender_block ours us h series c e d) ∙ find_renewed e ∙ stays
      (find (is_sender_block_of e) us) refl
    where
      stays : (o : Option Block) → find (is_sender_block_of e) us ≡ o → option_map again o ≡ o
      stays none f = refl
      stays (some x) f =
          let p : is_sender_block_of e x ≡ true = find_passes _ us x f in
          ap some (renewed_other ours us h series c x
          (split (is_sender_block_of (sender h) x) (λ u. absurd (same_no (sender h) e d (sym (sender_block_eic (sender h) x u) ∙ sender_block_eic e x p))) (λ u. u))
          (series_of_other slot x (no_series e x p)))

  find_after : (e : Bytes) → find (is_sender_block_of e) after ≡ cond (same (sender h) e) (some (sender_kept ours h series)) (find (is_sender_block_of e) us)
  find_after e = find_marked e ∙ split (same (sender h) e) (λ t. rw (t, ← (same_yes (sender h) e t)) find_own) (λ t. rw t (find_other e t))

  pub nets_after : (e : Bytes) → option_map nets (find (is_sender_block_of e) (after_of book message)) ≡ cond (same (sender (head_of message)) e)
      (some (nets_of (area (day_block book)) e (series_of message))) (option_map nets (find (is_sender_block_of e) (used book)))
  nets_after e = ap (option_map nets) (find_after e) ∙ split (same (sender h) e)
      (λ t. rw t (ap some (nets_sender_kept ∙ ap (λ z. nets_of ours z series) (same_yes _ _ t)))) (λ t. rw t)

  head_content_kept : head_content (sender_kept ours h series) ≡ head_content h
  unfolding sender_kept head_content
  head_content_kept = part_with_nets_before _ 0 108 h (omega arith)

  pub head_content_after : (e : Bytes) → option_map head_content (find (is_sender_block_of e) (after_of book message)) ≡ cond (same (sender (head_of message)) e)
      (some (head_content (head_of message))) (option_map head_content (find (is_sender_block_of e) (used book)))
  head_content_after e = ap (option_map head_content) (find_after e) ∙ split (same (sender h) e) (λ t. rw t (ap some head_content_kept)) (λ t. rw t)

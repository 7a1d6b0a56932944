-- The phases put together, over lists of blocks, are what the definition says that an acceptance writes: the used slots and the new blocks behind
-- them, the first of these renewed, then all of them marked anew.
use Rattle.std.specs.Prelude.{◌≡◌, ◌∷◌, ◌++◌, ◌+◌, ◌≤◌}
use Rattle.laws.specs.Kit.{sym, ap, ap₂, ◌∙◌, cond, List, [], map, append_assoc, ℕ, arith, length, take, drop, length-append, length-map, take_at, drop_at, is, split, is_equal, is_other}
use Rattle.laws.specs.Lists.{has, keep}
use Rattle.laws.specs.Lists.Search.{has_no_place, place_positive}
use Rattle.laws.specs.InPlace.{over}
use Rattle.paper.specs.Layout.{Bytes, Block, sender, with_senders_slot}
use Rattle.paper.specs.Book.{is_sender_block_of, is_series_of, slot_of, own_series}
use Rattle.paper.specs.Rules.{is_new}
use Rattle.paper.specs.Acceptance.{slot_for, sender_kept, renewed, fresh, placed, remarked, used_after}
use Rattle.index.specs.Handed.{Handed}
use Rattle.accept.specs.Fits.{Placing}
use Rattle.accept.specs.Steps.{Laid, sender_if_new, added_to, renewed_with, Numbers, Housed}
use Rattle.accept.proofs.Laws.Adding.{all_new}
use Rattle.accept.proofs.Laws.Renewing.{numbers_found, renewed_kept}
use Rattle.accept.proofs.Laws.Touching.{shape, housed}

-- ---- the sender's slot, as the code finds it

module _ (us : List Block) (e : Bytes) (known u : ℕ) (k : known ≡ slot_of us e) (n : u ≡ length us) where
  slot_found : cond (is known 0) (u + 1) known ≡ slot_for us e
  unfolding slot_for slot_of
  slot_found = split (has (is_sender_block_of e) us)
      (λ t. rw (t, is_other known 0 (λ z. omega (arith, place_positive (is_sender_block_of e) us t))) k)
      (λ t. rw (t, is_equal known 0 (k ∙ has_no_place (is_sender_block_of e) us t)) (omega arith))

  sender_found : (kept : Block) → sender_if_new known kept ≡ cond (has (is_sender_block_of e) us) [] (kept ∷ [])
  unfolding sender_if_new slot_of
  sender_found kept = split (has (is_sender_block_of e) us)
      (λ t. rw (t, is_other known 0 (λ z. omega (arith, place_positive (is_sender_block_of e) us t))))
      (λ t. rw (t, is_equal known 0 (k ∙ has_no_place (is_sender_block_of e) us t)))

-- ---- the phases, over lists of blocks: l are all slots, us the used ones

module _ (n : ℕ) (ours : Bytes) (l us : List Block) (h : Block) (series : List Block) (p : Placing n ours (length l) us h series) (u known : ℕ) (places numbers : List ℕ) (d : Handed us h series u known places numbers)
    (f : take u l ≡ us) (slot : ℕ) (s : slot ≡ cond (is known 0) (u + 1) known) (kept : Block) (k : kept ≡ sender_kept ours h series) where
  abbrev new : List Block
  new = sender_if_new known kept ++ added_to slot places series (length series)

  slot_is : slot ≡ slot_for us (sender h)
  slot_is = s ∙ slot_found us (sender h) known u d.senders_slot_is d.used_count_is

  new_is : new ≡ fresh ours us h series
  unfolding fresh own_series
  new_is =
      ap₂ ◌++◌ (sender_found us (sender h) known u d.senders_slot_is d.used_count_is kept ∙ ap (λ b. cond (has (is_sender_block_of (sender h)) us) [] (b ∷ [])) k)
      (all_new slot places series known us d.stored
      ∙ ap₂ (λ a k. map (with_senders_slot a) (keep (is_new (keep (is_series_of k) us)) series)) slot_is d.senders_slot_is)

  placed_length : length (placed ours us h series) ≡ u + length (fresh ours us h series)
  unfolding placed
  placed_length =
      omega (arith, d.used_count_is, length-append (map (renewed ours (slot_for us (sender h)) h series) us) (fresh ours us h series), length-map us (renewed ours (slot_for us (sender h)) h series))

  pub room : u + length new ≤ length l
  room = let r : length (placed ours us h series) ≤ length l = p.room in omega (arith, placed_length, ap length new_is)

  module _ (l1 : List Block) (next : ℕ) (i : Laid u new l l1 next) where
    pub next_is : next ≡ length (placed ours us h series)
    next_is = i.end ∙ ap (λ a. u + length a) new_is ∙ sym placed_length

    one : l1 ≡ us ++ (fresh ours us h series ++ drop next l)
    unfolding over
    one =
        let e : length (us ++ fresh ours us h series) ≡ next = omega (arith, d.used_count_is, next_is, placed_length, length-append us (fresh ours us h series)) in
        i.list ∙ ap₂ (λ a b. over (a ++ b) l) f new_is ∙ ap (λ m. (us ++ fresh ours us h series) ++ drop m l) e ∙ append_assoc us (fresh ours us h series) (drop next l)

    pub first_used : take u l1 ≡ us
    first_used = ap (take u) one ∙ take_at us (fresh ours us h series ++ drop next l) u (sym d.used_count_is)

    pub used_numbers : Numbers (take u l1) series numbers
    used_numbers = rw first_used (numbers_found us series numbers p.series_slot d.sent)

    module _ (l2 : List Block) (e2 : l2 ≡ map (renewed_with slot kept series) (take u l1) ++ drop u l1) where
      two : l2 ≡ placed ours us h series ++ drop next l
      unfolding placed
      two =
          let r : drop u l1 ≡ fresh ours us h series ++ drop next l = ap (drop u) one ∙ drop_at us (fresh ours us h series ++ drop next l) u (sym d.used_count_is) in
          e2 ∙ ap (λ b. map (renewed_with slot b series) (take u l1) ++ drop u l1) k
          ∙ ap (λ g. map g (take u l1) ++ drop u l1) (renewed_kept ours us h series (shape n ours (length l) us h series p) slot)
          ∙ ap₂ (λ a b. map (renewed ours a h series) b ++ drop u l1) slot_is first_used ∙ ap (λ z. map (renewed ours (slot_for us (sender h)) h series) us ++ z) r
          ∙ sym (append_assoc (map (renewed ours (slot_for us (sender h)) h series) us) (fresh ours us h series) (drop next l))

      pub first_placed : take next l2 ≡ placed ours us h series
      first_placed = ap (take next) two ∙ take_at (placed ours us h series) (drop next l) next (sym next_is)

      pub placed_housed : Housed slot (take next l2) series
      placed_housed = rw (slot_is, first_placed) (housed n ours (length l) us h series p)

      module _ (l3 : List Block) (e3 : l3 ≡ map (remarked n slot (take next l2)) (take next l2) ++ drop next l2) where
        pub three : l3 ≡ over (used_after n ours us h series) l
        unfolding used_after over
        three =
            let k : drop next l2 ≡ drop next l = ap (drop next) two ∙ drop_at (placed ours us h series) (drop next l) next (sym next_is) in
            let z : next ≡ length (map (remarked n (slot_for us (sender h)) (placed ours us h series)) (placed ours us h series)) =
            next_is ∙ sym (length-map (placed ours us h series) (remarked n (slot_for us (sender h)) (placed ours us h series)))
            in
            e3 ∙ ap₂ (λ a b. map (remarked n a b) b ++ drop next l2) slot_is first_placed
            ∙ ap (λ r. map (remarked n (slot_for us (sender h)) (placed ours us h series)) (placed ours us h series) ++ r) (k ∙ ap (λ j. drop j l) z)

-- What an accepted conversion says, as a record. A book that is sound in the old layout is sound: its byte 104 is at most 3, and every n is above that. And what a
-- conversion does to each block: it writes nets and check of a sender, mark and check of a series, and so leaves what marks are worked out from.
use Rattle.std.specs.Prelude.{◌≡◌, ◌++◌, ◌+◌, ◌*◌, ◌≤◌, ◌<◌}
use Rattle.laws.specs.Base.{refl, ap, ap₂, ◌∙◌, Bool, true, false, cond, Option, none, some, option_map, List, map, ℕ, arith, length, drop}
use Rattle.laws.specs.Tests.{◌and◌, is}
use Rattle.laws.specs.Tests.Laws.{split, and_left, and_right, and_both, or_else, neg_false, is_equal, is_other, upto_yes}
use Rattle.laws.specs.Lists.{same, find, place, keep, total, All}
use Rattle.laws.specs.Lists.Each.{all_imply, all_kept, every_all, all_every}
use Rattle.laws.specs.Lists.Keep.{keep_map_each}
use Rattle.laws.specs.Lists.Count.{total_agree, total_map}
use Rattle.laws.specs.Lists.Search.{find_map, find_passes, place_map_each}
use Rattle.laws.specs.Cut.{join}
use Rattle.paper.specs.Layout.{Bytes, Block, kind, n_of, area, sender, senders_slot, key, differing, quantities, quantity, with_mark, with_nets}
use Rattle.paper.specs.Book.{day_block, used, is_sender, is_series, trade, is_sender_block_of, slot_of, is_series_of, own_series}
use Rattle.paper.specs.Sound.{differing_sound, sound_over, differing_allowed, sound}
use Rattle.paper.specs.Marks.{is_counterpart, counterpart, counterpart_slot, mark_of, mark_in}
use Rattle.paper.specs.Nets.{comes_in, goes_out, bought, sold, nets_of}
use Rattle.paper.specs.Conversion.{state_allowed, old_sound, conversion_number, converted_block, used_converted, converted}
use Rattle.facts.specs.Layout.{Alike, alike_mark, alike_quantity, with_mark_length, with_nets_length, kind_with_mark, kind_with_nets, sender_with_mark, sender_with_nets, senders_slot_with_mark, key_with_mark, quantities_with_mark}
use Rattle.facts.specs.Book.{series_not_sender, series_of_series}
use Rattle.facts.specs.Sound.{Sound, sound_says, day_n_least, count_allowed_lem}
use Rattle.facts.specs.Pairs.{Keeps, counterpart_series, counterpart_kept, series_of_kept}
use Rattle.facts.specs.Remarking.{mark_in_length}
use Rattle.facts.specs.Nets.{alike_comes_in, alike_goes_out, nets_agree}
use Rattle.facts.specs.Keys.{key_trade}

-- ---- the old layout

pub old_state : (n : ℕ) (x : Block) → differing_sound state_allowed n x ≡ true → is_series x ≡ true → (1 ≤ differing x) × (differing x ≤ 3)
unfolding differing_sound state_allowed
old_state n x e t = let q = or_else _ _ e (neg_false _ t) in (upto_yes _ _ (and_left _ _ q), upto_yes _ _ (and_right _ _ q))

old_count : (n : ℕ) (x : Block) → 92 ≤ n → differing_sound state_allowed n x ≡ true → differing_sound differing_allowed n x ≡ true
old_count n x h e = count_allowed_lem n x (λ t. omega (arith, (old_state n x e t).1))

pub old_sound_is_sound : (book : Bytes) → old_sound book ≡ true → sound book ≡ true
unfolding old_sound sound sound_over
old_sound_is_sound book s =
    let d = and_right _ _ (and_left _ _ (and_left _ _ (and_left _ _ (and_left _ _ (and_left _ _ (and_left _ _ s)))))) in
    let n : 92 ≤ n_of (day_block book) = day_n_least (day_block book) d in
    and_both _ _ (and_left _ _ s)
    (all_every _ _
    (all_imply (λ x. differing_sound state_allowed (n_of (day_block book)) x ≡ true) (λ x. differing_sound differing_allowed (n_of (day_block book)) x ≡ true)
    (λ x q. old_count (n_of (day_block book)) x n q) (used book) (every_all _ _ (and_right _ _ s))))

-- ---- an accepted conversion

pub record Converts (book : Bytes) : Type 0 where
  pub was : Sound book
  pub result : converted book ≡ day_block book ++ join (used_converted (n_of (day_block book)) (area (day_block book)) (used book)) ++ drop (512 + 512 * length (used book)) book

conversion_passed : (book : Bytes) → conversion_number book ≡ 0 → old_sound book ≡ true
unfolding conversion_number
conversion_passed book e = split (old_sound book) (λ t. t) (λ t. absurd (let z : ◌≡◌ {A = ℕ} 1 0 = rw t at e in omega arith))

pub converts : (book : Bytes) → conversion_number book ≡ 0 → Converts book
unfolding converted
converts book e = record { was = sound_says book (old_sound_is_sound book (conversion_passed book e)); result = rw (is_equal _ _ e) }

-- a refused one changes nothing
pub conversion_refused : (book : Bytes) → (conversion_number book ≡ 0 → ⊥) → converted book ≡ book
unfolding converted
conversion_refused book f = rw (is_other _ _ f)

-- ---- a block

module _ (n : ℕ) (ours : Bytes) (us : List Block) where
  abbrev again : Block → Block
  again = converted_block n ours us

  pub converted_sender : (b : Block) → is_sender b ≡ true → converted_block n ours us b ≡ with_nets (nets_of ours (sender b) (own_series us (sender b))) b
  unfolding converted_block
  converted_sender b t = rw t

  pub converted_series : (b : Block) → is_series b ≡ true → converted_block n ours us b ≡ with_mark (mark_in n us b) b
  unfolding converted_block
  converted_series b t = rw (series_not_sender b t, t)

  pub converted_other : (b : Block) → is_sender b ≡ false → is_series b ≡ false → converted_block n ours us b ≡ b
  unfolding converted_block
  converted_other b s t = rw (s, t)

  -- a fact P of a converted block, by its kind
  pub by_converted : (P : Block → Type 0) (b : Block) → (is_sender b ≡ true → P (with_nets (nets_of ours (sender b) (own_series us (sender b))) b))
      → (is_series b ≡ true → P (with_mark (mark_in n us b) b)) → P b → P (converted_block n ours us b)
  by_converted P b s x o = split (is_sender b)
      (λ t. rw (converted_sender b t) (s t))
      (λ t. split (is_series b) (λ u. rw (converted_series b u) (x u)) (λ u. rw (converted_other b t u) o))

  pub kind_converted : (b : Block) → kind (again b) ≡ kind b
  kind_converted b = by_converted (λ z. kind z ≡ kind b) b (λ t. kind_with_nets _ b) (λ t. kind_with_mark _ b) refl

  pub series_converted : (b : Block) → is_series (again b) ≡ is_series b
  unfolding is_series
  series_converted b = ap (λ z. is z 2) (kind_converted b)

  pub sender_converted : (b : Block) → sender (again b) ≡ sender b
  sender_converted b = by_converted (λ z. sender z ≡ sender b) b (λ t. sender_with_nets _ b) (λ t. sender_with_mark _ b) refl

  pub sender_block_converted : (e : Bytes) (b : Block) → is_sender_block_of e (again b) ≡ is_sender_block_of e b
  unfolding is_sender_block_of is_sender
  sender_block_converted e b = ap₂ (λ x y. is x 1 and same y e) (kind_converted b) (sender_converted b)

  pub converted_length : (b : Block) → length (again b) ≡ length b
  converted_length b = by_converted (λ z. length z ≡ length b) b (λ t. with_nets_length _ b) (λ t. with_mark_length _ b) refl

  pub senders_slot_converted : (b : Block) → is_series b ≡ true → senders_slot (again b) ≡ senders_slot b
  senders_slot_converted b t = rw (converted_series b t) (senders_slot_with_mark _ b)

  pub key_converted : (b : Block) → is_series b ≡ true → key (again b) ≡ key b
  key_converted b t = rw (converted_series b t) (key_with_mark _ b)

  pub quantities_converted : (b : Block) → is_series b ≡ true → quantities (again b) ≡ quantities b
  quantities_converted b t = rw (converted_series b t) (quantities_with_mark _ b (mark_in_length n us b))

  pub converted_keeps : Keeps again
  converted_keeps = record { series = series_converted; slot = senders_slot_converted; keys = key_converted }

  -- ---- marks worked out of converted blocks are those of the blocks before

  counterpart_quantities : (slot : ℕ) (k : Option Bytes) (r : List Block)
      → option_map quantities (option_map again (find (is_counterpart slot k) r)) ≡ option_map quantities (find (is_counterpart slot k) r)
  counterpart_quantities slot k r = by (find (is_counterpart slot k) r) refl
    where
      by : (o : Option Block) → find (is_counterpart slot k) r ≡ o → option_map quantities (option_map again o) ≡ option_map quantities o
      by none e = refl
      by (some b) e = ap some (quantities_converted b (counterpart_series slot k b (find_passes _ r b e)))

  pub mark_in_converted_list : (r : List Block) (x : Block) → mark_in n (map again r) x ≡ mark_in n r x
  unfolding mark_in counterpart counterpart_slot
  mark_in_converted_list r x =
      let p : Block → Bool = is_counterpart (senders_slot x) (trade x) in
      ap₂ (λ (o : Option Bytes) (s : ℕ). mark_of n (quantities x) o s)
      (ap (option_map quantities) (find_map again p p (counterpart_kept again converted_keeps (senders_slot x) (trade x)) r)
      ∙ counterpart_quantities (senders_slot x) (trade x) r)
      (place_map_each again p p (counterpart_kept again converted_keeps (senders_slot x) (trade x)) r)

  pub mark_in_converted : (r : List Block) (x : Block) → is_series x ≡ true → mark_in n r (again x) ≡ mark_in n r x
  unfolding mark_in counterpart counterpart_slot
  mark_in_converted r x t = rw (senders_slot_converted x t, key_trade _ x (key_converted x t), quantities_converted x t)

  -- ---- and so are nets

  alike_converted : (x : Block) → is_series x ≡ true → Alike (again x) x
  alike_converted x t = rw (converted_series x t) (alike_mark _ x (mark_in_length n us x))

  own_series_converted : (r : List Block) (e : Bytes) → own_series (map again r) e ≡ map again (own_series r e)
  unfolding own_series slot_of
  own_series_converted r e =
      ap (λ i. keep (is_series_of i) (map again r)) (place_map_each again (is_sender_block_of e) (is_sender_block_of e) (sender_block_converted e) r)
      ∙ keep_map_each again (is_series_of (place (is_sender_block_of e) r)) (is_series_of (place (is_sender_block_of e) r)) (series_of_kept again converted_keeps _) r

  own_are_series : (r : List Block) (e : Bytes) → All (λ x. is_series x ≡ true) (own_series r e)
  unfolding own_series
  own_are_series r e = all_imply (λ x. is_series_of (slot_of r e) x ≡ true) (λ x. is_series x ≡ true) (λ x. series_of_series _ x) (keep (is_series_of (slot_of r e)) r) (all_kept (is_series_of (slot_of r e)) r)

  -- what one of a sender's series adds to a sum
  share_converted : (counts : Block → Bool) (k : ℕ) → k < 100 → ((x y : Block) → Alike x y → counts x ≡ counts y) → (l : List Block)
      → All (λ x. is_series x ≡ true) l
      → total (λ x. cond (counts x) (quantity x k) 0) (map again l) ≡ total (λ x. cond (counts x) (quantity x k) 0) l
  share_converted counts k h p l s =
      total_map again (λ x. cond (counts x) (quantity x k) 0) l
      ∙ total_agree (λ x. cond (counts (again x)) (quantity (again x) k) 0) (λ x. cond (counts x) (quantity x k) 0) l
      (all_imply (λ x. is_series x ≡ true) (λ x. cond (counts (again x)) (quantity (again x) k) 0 ≡ cond (counts x) (quantity x k) 0)
      (λ x t. ap₂ (λ (a : Bool) (q : ℕ). cond a q 0) (p (again x) x (alike_converted x t)) (alike_quantity (again x) x (alike_converted x t) k h)) l s)

  pub nets_converted_list : (r : List Block) (e : Bytes) → nets_of ours e (own_series (map again r) e) ≡ nets_of ours e (own_series r e)
  unfolding bought sold
  nets_converted_list r e =
      ap (nets_of ours e) (own_series_converted r e)
      ∙ nets_agree ours e (map again (own_series r e)) (own_series r e) (λ k h. (
        share_converted (comes_in ours e) k h (alike_comes_in ours e) (own_series r e) (own_are_series r e),
        share_converted (goes_out ours e) k h (alike_goes_out ours e) (own_series r e) (own_are_series r e),
      ))

-- A mark that is put right changes the mark and the check of a block and nothing else of it, for it is written over these bytes alone.
use Rattle.std.specs.Prelude.{◌≡◌}
use Rattle.laws.specs.Base.{refl, ap, ap₂, ◌∙◌, Bool, true, false, Option, none, some, option_map, List, map, ℕ, arith, length}
use Rattle.laws.specs.Tests.{◌and◌, is}
use Rattle.laws.specs.Tests.Laws.{split, and_no_left}
use Rattle.laws.specs.Lists.{same, find}
use Rattle.laws.specs.Lists.Search.{find_map, place_map_each}
use Rattle.laws.specs.Bytes.Laws.{little_length}
use Rattle.paper.specs.Layout.{Bytes, Block, kind, senders_slot, key, quantities, with_mark}
use Rattle.paper.specs.Book.{is_sender, is_series, trade, is_sender_block_of}
use Rattle.paper.specs.Marks.{is_counterpart, counterpart, counterpart_slot, mark_of, mark_in}
use Rattle.paper.specs.Acceptance.{touched, remarked}
use Rattle.facts.specs.Layout.{with_mark_length, kind_with_mark, sender_with_mark, senders_slot_with_mark, key_with_mark, quantities_with_mark, Alike, alike_refl, alike_mark}
use Rattle.facts.specs.Pairs.{view_found, map_view, Keeps, ByKey, of_slot, of_slot_kept, counterpart_kept}
use Rattle.facts.specs.Keys.{key_trade}

-- ---- what a mark leaves

mark_of_length : (n : ℕ) (a : Bytes) (o : Option Bytes) (slot : ℕ) → length (mark_of n a o slot) ≡ 4
unfolding mark_of
mark_of_length n a none slot = refl
mark_of_length n a (some b) slot = omega (arith, little_length 2 slot)

pub mark_in_length : (n : ℕ) (l : List Block) (x : Block) → length (mark_in n l x) ≡ 4
unfolding mark_in
mark_in_length n l x = mark_of_length n (quantities x) (option_map quantities (counterpart l x)) (counterpart_slot l x)

module _ (n slot : ℕ) (l : List Block) where
  abbrev again : Block → Block
  again = remarked n slot l

  pub remarked_touched : (b : Block) → touched slot l b ≡ true → remarked n slot l b ≡ with_mark (mark_in n l b) b
  unfolding remarked
  remarked_touched b t = rw t

  pub remarked_untouched : (b : Block) → touched slot l b ≡ false → remarked n slot l b ≡ b
  unfolding remarked
  remarked_untouched b t = rw t

  -- a block that is no series has no mark
  pub remarked_no_series : (b : Block) → is_series b ≡ false → remarked n slot l b ≡ b
  unfolding touched
  remarked_no_series b e = remarked_untouched b (and_no_left _ _ e)

  pub alike_remarked : (b : Block) → Alike (again b) b
  alike_remarked b = split (touched slot l b) (λ t. rw (remarked_touched b t) (alike_mark _ b (mark_in_length n l b)))
      (λ t. rw (remarked_untouched b t) (alike_refl b))

  pub kind_remarked : (b : Block) → kind (again b) ≡ kind b
  kind_remarked b = split (touched slot l b) (λ t. rw (remarked_touched b t) (kind_with_mark _ b)) (λ t. rw (remarked_untouched b t))

  pub series_remarked : (b : Block) → is_series (again b) ≡ is_series b
  unfolding is_series
  series_remarked b = ap (λ z. is z 2) (kind_remarked b)

  pub senders_slot_remarked : (b : Block) → senders_slot (again b) ≡ senders_slot b
  senders_slot_remarked b = split (touched slot l b) (λ t. rw (remarked_touched b t) (senders_slot_with_mark _ b)) (λ t. rw (remarked_untouched b t))

  pub key_remarked : (b : Block) → key (again b) ≡ key b
  key_remarked b = split (touched slot l b) (λ t. rw (remarked_touched b t) (key_with_mark _ b)) (λ t. rw (remarked_untouched b t))

  pub trade_remarked : (b : Block) → trade (again b) ≡ trade b
  trade_remarked b = key_trade (again b) b (key_remarked b)

  pub quantities_remarked : (b : Block) → quantities (again b) ≡ quantities b
  quantities_remarked b = split (touched slot l b) (λ t. rw (remarked_touched b t) (quantities_with_mark _ b (mark_in_length n l b)))
      (λ t. rw (remarked_untouched b t))

  pub remarked_length : (b : Block) → length (again b) ≡ length b
  remarked_length b = split (touched slot l b) (λ t. rw (remarked_touched b t) (with_mark_length _ b)) (λ t. rw (remarked_untouched b t))

  pub sender_block_remarked : (e : Bytes) (b : Block) → is_sender_block_of e (again b) ≡ is_sender_block_of e b
  unfolding is_sender_block_of is_sender
  sender_block_remarked e b = split (touched slot l b)
      (λ t. rw (remarked_touched b t) (ap₂ (λ x y. is x 1 and same y e) (kind_with_mark _ b) (sender_with_mark _ b)))
      (λ t. rw (remarked_untouched b t))

  pub remarked_keeps : Keeps again
  remarked_keeps = record { series = series_remarked; slot = λ b t. senders_slot_remarked b; keys = λ b t. key_remarked b }

  -- ---- searches of blocks that are marked anew find what they found

  pub of_slot_found_remarked : (view : Block → Bytes) → ((b : Block) → view (remarked n slot l b) ≡ view b) → (r : List Block) (i : ℕ) (q : Block → Bool) → ByKey q
      → view_found view (of_slot i q) (map (remarked n slot l) r) ≡ view_found view (of_slot i q) r
  unfolding view_found
  of_slot_found_remarked view v r i q by =
      ap (option_map view) (find_map again (of_slot i q) (of_slot i q) (of_slot_kept again remarked_keeps i q by) r) ∙ map_view view again v
      (find (of_slot i q) r)

  pub mark_in_remarked_list : (r : List Block) (x : Block) → mark_in n (map again r) x ≡ mark_in n r x
  unfolding mark_in counterpart counterpart_slot
  mark_in_remarked_list r x =
      let p : Block → Bool = is_counterpart (senders_slot x) (trade x) in
      ap₂ (λ (o : Option Bytes) (s : ℕ). mark_of n (quantities x) o s)
      (ap (option_map quantities) (find_map again p p (counterpart_kept again remarked_keeps (senders_slot x) (trade x)) r)
      ∙ map_view quantities again quantities_remarked (find p r))
      (place_map_each again p p (counterpart_kept again remarked_keeps (senders_slot x) (trade x)) r)

  pub mark_in_remarked : (r : List Block) (x : Block) → mark_in n r (again x) ≡ mark_in n r x
  unfolding mark_in counterpart counterpart_slot
  mark_in_remarked r x = rw (senders_slot_remarked x, trade_remarked x, quantities_remarked x)

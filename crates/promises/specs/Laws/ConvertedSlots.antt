-- A conversion moves no block: what it writes is read back in the slots where the blocks stood, each of its kind, a sender with its EIC and a series with its sender.
use Rattle.std.specs.Prelude.{◌≡◌, ◌++◌, ◌+◌, ◌*◌, ◌/◌, ◌≤◌}
use Rattle.laws.specs.Base.{sym, ap, ◌∙◌, Bool, true, false, List, [], map, ℕ, arith, length, drop, length-map}
use Rattle.laws.specs.Tests.{◌or◌}
use Rattle.laws.specs.Lists.{count, keep}
use Rattle.laws.specs.Lists.Each.{all_imply, all_each, all_map}
use Rattle.laws.specs.Lists.Search.{place_map_each}
use Rattle.laws.specs.Lists.Count.{count_map, count_agree}
use Rattle.laws.specs.Lists.Keep.{keep_map_each, until_length}
use Rattle.laws.specs.Cut.{join}
use Rattle.paper.specs.Layout.{Bytes, Block, n_of, area, sender}
use Rattle.paper.specs.Book.{day_block, slots, is_free, used, is_sender, is_series, is_right, numbered, is_sender_block_of, slot_of, is_series_of, own_series}
use Rattle.paper.specs.Conversion.{used_converted, converted}
use Rattle.facts.specs.Book.{no_block_sender, no_block_series, sender_block_own, numbered_map, numbered_inside, slots_length, used_lengths}
use Rattle.facts.specs.Pairs.{series_of_kept}
use Rattle.facts.specs.Conversion.{Converts, kind_converted, series_converted, sender_block_converted, converted_length, converted_keeps}
use Rattle.promises.specs.Laws.Parts.{again_of, used_again_of}
use Rattle.promises.specs.Laws.Rewritten.{used_live, rewritten, Rewrites, used_rewritten, day_block_rewritten, rest_rewritten, rewritten_length}

module _ (book : Bytes) (c : Converts book) where
  abbrev d : Block
  d = day_block book

  abbrev ours : Bytes
  ours = area (day_block book)

  abbrev us : List Block
  us = used book

  abbrev n : ℕ
  n = n_of (day_block book)

  abbrev again : Block → Block
  again = again_of book

  abbrev after : List Block
  after = used_again_of book

  -- ---- the used slots are read back as they were written

  pub kind_again : (x : Block) → (is_sender (again_of book x) ≡ is_sender x) × (is_series (again_of book x) ≡ is_series x) × (is_right (again_of book x) ≡ is_right x)
  unfolding is_sender is_series is_right
  kind_again x = (rw (kind_converted n ours us x), rw (kind_converted n ours us x), rw (kind_converted n ours us x))

  again_length : length after ≡ length us
  unfolding used_converted
  again_length = length-map us again

  pub rewrites : Rewrites book (used_again_of book)
  unfolding used_converted used
  rewrites = record {
    was = c.was;
    whole = all_map (λ x. length x ≡ 512) again us (all_imply (λ x. length x ≡ 512) (λ x. length (again x) ≡ 512) (λ x e. converted_length n ours us x ∙ e) us (used_lengths book));
    live = all_map (λ x. (is_sender x or is_series x or is_right x) ≡ true) again us
        (all_imply (λ x. (is_sender x or is_series x or is_right x) ≡ true) (λ x. (is_sender (again x) or is_series (again x) or is_right (again x)) ≡ true)
        (λ x e. rw ((kind_again x).0, (kind_again x).1, (kind_again x).2) e) us (used_live book c.was));
    most = omega (arith, again_length);
    fits = let h : 2 ≤ length book / 512 = c.was.least in omega (arith, again_length, until_length is_free (slots book), slots_length book);
  }

  pub result : converted book ≡ rewritten book (used_again_of book)
  result = c.result ∙ ap (λ k. d ++ join after ++ drop (512 + 512 * k) book) (sym again_length)

  pub used_converted_lem : used (converted book) ≡ used_again_of book
  used_converted_lem = ap used result ∙ used_rewritten book after rewrites

  pub day_block_converted : day_block (converted book) ≡ day_block book
  day_block_converted = ap day_block result ∙ day_block_rewritten book after rewrites

  pub used_converted_length : length (used (converted book)) ≡ length (used book)
  used_converted_length = ap length used_converted_lem ∙ again_length

  pub converted_book_length : length (converted book) ≡ length book
  converted_book_length = ap length result ∙ rewritten_length book after rewrites

  pub rest_converted : drop (512 + 512 * length (used book)) (converted book) ≡ drop (512 + 512 * length (used book)) book
  rest_converted = rw again_length at (ap (drop (512 + 512 * length after)) result ∙ rest_rewritten book after rewrites)

  -- ---- who stands where, and whose the series are

  pub slot_converted : (e : Bytes) → slot_of (used_again_of book) e ≡ slot_of (used book) e
  unfolding slot_of used_converted
  slot_converted e = place_map_each again (is_sender_block_of e) (is_sender_block_of e) (sender_block_converted n ours us e) us

  pub own_converted : (e : Bytes) → own_series (used_again_of book) e ≡ map (again_of book) (own_series (used book) e)
  unfolding own_series used_converted
  own_converted e =
      ap (λ i. keep (is_series_of i) (map again us)) (slot_converted e)
      ∙ keep_map_each again (is_series_of (slot_of us e)) (is_series_of (slot_of us e)) (series_of_kept again (converted_keeps n ours us) (slot_of us e)) us

  pub count_converted : (i : ℕ) → count (is_series_of i) (used_again_of book) ≡ count (is_series_of i) (used book)
  unfolding used_converted
  count_converted i =
      count_map again (is_series_of i) us ∙ count_agree (λ x. is_series_of i (again x)) (is_series_of i) us
      (all_each (λ x. is_series_of i (again x) ≡ is_series_of i x) (series_of_kept again (converted_keeps n ours us) i) us)

  numbered_again : (p : Block → Bool) (i : ℕ) → p [] ≡ false → p (numbered us i) ≡ true → numbered after i ≡ again (numbered us i)
  unfolding used_converted
  numbered_again p i e t = let r = numbered_inside us i p e t in numbered_map again us i r.0 r.1

  pub series_again : (i : ℕ) → is_series (numbered (used book) i) ≡ true → is_series (numbered (used_again_of book) i) ≡ true
  series_again i t = ap is_series (numbered_again is_series i no_block_series t) ∙ series_converted n ours us (numbered us i) ∙ t

  pub sender_again : (i : ℕ) → is_sender (numbered (used book) i) ≡ true
      → is_sender_block_of (sender (numbered (used book) i)) (numbered (used_again_of book) i) ≡ true
  sender_again i t =
      ap (is_sender_block_of (sender (numbered us i))) (numbered_again is_sender i no_block_sender t)
      ∙ sender_block_converted n ours us (sender (numbered us i)) (numbered us i) ∙ sender_block_own (numbered us i) t

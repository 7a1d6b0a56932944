-- A sound book whose used slots are written anew is read back as the blocks written: they are whole, none of them is free, there is room for them, and behind them
-- all slots stay free. So it is sound where these blocks are.
use Rattle.std.specs.Prelude.{◌≡◌, ◌++◌, ◌+◌, ◌-◌, ◌*◌, ◌/◌, ◌≤◌, ◌<◌}
use Rattle.laws.specs.Base.{refl, ap, ◌∙◌, true, false, List, append_assoc, ℕ, arith, length, drop, length-append, length-drop, drop_at, drop-drop}
use Rattle.laws.specs.Tests.{◌or◌}
use Rattle.laws.specs.Lists.{apart, All}
use Rattle.laws.specs.Lists.Each.{all_imply, all_append, all_drop, all_until}
use Rattle.laws.specs.Cut.{join}
use Rattle.laws.specs.Cut.Laws.{join_length}
use Rattle.paper.specs.Check.{check_right}
use Rattle.paper.specs.Layout.{Bytes, Block, blocks, n_of}
use Rattle.paper.specs.Book.{day_block, slots, is_free, used, is_sender, is_series, is_right}
use Rattle.paper.specs.Sound.{used_sound, same_sender, same_series, same_right, differing_sound, differing_allowed}
use Rattle.facts.specs.Book.{kind_used, day_block_append, blocks_book, slots_joined, used_joined, slots_rest}
use Rattle.facts.specs.Sound.{Sound, day_block_length, used_kind}

-- ---- a book's checks

pub book_long : (book : Bytes) → Sound book → 512 ≤ length book
book_long book s = let j : 2 ≤ length book / 512 = s.least in omega arith

pub checks_parted : (book : Bytes) → Sound book → (check_right (day_block book) ≡ true) × All (λ x. check_right x ≡ true) (slots book)
checks_parted book s = rw (blocks_book book (book_long book s)) at s.checks

pub checks_joined : (book : Bytes) → 512 ≤ length book → check_right (day_block book) ≡ true → All (λ x. check_right x ≡ true) (slots book)
    → All (λ x. check_right x ≡ true) (blocks book)
checks_joined book h d s = rw (blocks_book book h) (d, s)

pub used_right : (book : Bytes) → Sound book → All (λ x. check_right x ≡ true) (used book)
unfolding used
used_right book s = all_until (λ x. check_right x ≡ true) is_free (slots book) (checks_parted book s).1

-- ---- its used slots, and those behind them

pub used_live : (book : Bytes) → Sound book → All (λ x. (is_sender x or is_series x or is_right x) ≡ true) (used book)
used_live book s = all_imply (λ x. used_sound (day_block book) (used book) x ≡ true) (λ x. (is_sender x or is_series x or is_right x) ≡ true)
    (λ x q. used_kind (day_block book) (used book) x q) (used book) s.each

free_from : (book : Bytes) → Sound book → (k : ℕ) → length (used book) ≤ k → All (λ x. is_free x ≡ true) (drop k (slots book))
free_from book s k h =
    let j : length (used book) + (k - length (used book)) ≡ k = omega arith in
    rw (drop-drop (k - length (used book)) (length (used book)) (slots book), j) at
    (all_drop (λ x. is_free x ≡ true) (k - length (used book)) (drop (length (used book)) (slots book)) s.free)

-- ---- written anew: l are the blocks that then stand in the used slots

abbrev pub rewritten : (book : Bytes) (l : List Block) → Bytes
rewritten book l = day_block book ++ join l ++ drop (512 + 512 * length l) book

pub record Rewrites (book : Bytes) (l : List Block) : Type 0 where
  pub was : Sound book
  pub whole : All (λ x. length x ≡ 512) l
  pub live : All (λ x. (is_sender x or is_series x or is_right x) ≡ true) l
  pub most : length (used book) ≤ length l
  pub fits : length l < length book / 512

module _ (book : Bytes) (l : List Block) (r : Rewrites book l) where
  day_whole : length (day_block book) ≡ 512
  day_whole = day_block_length book r.was

  no_free : All (λ x. is_free x ≡ false) l
  no_free = all_imply (λ x. (is_sender x or is_series x or is_right x) ≡ true) (λ x. is_free x ≡ false) kind_used l r.live

  free_behind : All (λ x. is_free x ≡ true) (drop (length l) (slots book))
  free_behind = free_from book r.was (length l) r.most

  pub used_rewritten : used (rewritten book l) ≡ l
  used_rewritten = used_joined (day_block book) l _ day_whole r.whole no_free (rw (slots_rest book (length l)) free_behind)

  slots_rewritten : slots (rewritten book l) ≡ l ++ drop (length l) (slots book)
  slots_rewritten = slots_joined (day_block book) l _ day_whole r.whole ∙ ap (λ z. l ++ z) (slots_rest book (length l))

  pub day_block_rewritten : day_block (rewritten book l) ≡ day_block book
  day_block_rewritten = ap day_block (append_assoc (day_block book) (join l) _) ∙ day_block_append (day_block book) _ day_whole

  front_length : length (day_block book ++ join l) ≡ 512 + 512 * length l
  front_length = length-append (day_block book) (join l) ∙ omega (arith, day_whole, join_length 512 l r.whole)

  pub rest_rewritten : drop (512 + 512 * length l) (rewritten book l) ≡ drop (512 + 512 * length l) book
  rest_rewritten = drop_at (day_block book ++ join l) _ _ front_length

  pub rewritten_length : length (rewritten book l) ≡ length book
  rewritten_length = omega (
    arith,
    r.fits,
    front_length,
    length-append (day_block book ++ join l) (drop (512 + 512 * length l) book),
    length-drop (512 + 512 * length l) book,
  )

  -- ---- soundness

  checks_rewritten : All (λ x. check_right x ≡ true) l → All (λ x. check_right x ≡ true) (blocks (rewritten book l))
  checks_rewritten c =
      checks_joined (rewritten book l) (rw rewritten_length (book_long book r.was)) (rw day_block_rewritten (checks_parted book r.was).0)
      (rw slots_rewritten
      (all_append (λ x. check_right x ≡ true) l (drop (length l) (slots book)) c
      (all_drop (λ x. check_right x ≡ true) (length l) (slots book) (checks_parted book r.was).1)))

  free_rewritten : All (λ x. is_free x ≡ true) (drop (length (used (rewritten book l))) (slots (rewritten book l)))
  free_rewritten = rw (used_rewritten, slots_rewritten, drop_at l (drop (length l) (slots book)) (length l) refl) free_behind

  pub sound_rewritten : All (λ x. check_right x ≡ true) l → All (λ x. used_sound (day_block book) l x ≡ true) l → apart same_sender l ≡ true
      → apart same_series l ≡ true → apart same_right l ≡ true → All (λ x. differing_sound differing_allowed (n_of (day_block book)) x ≡ true) l → Sound (rewritten book l)
  sound_rewritten checks each senders series rights counts = record {
    whole = rw rewritten_length r.was.whole;
    least = rw rewritten_length r.was.least;
    most = rw rewritten_length r.was.most;
    checks = checks_rewritten checks;
    day = rw day_block_rewritten r.was.day;
    free = free_rewritten;
    each = rw (used_rewritten, day_block_rewritten) each;
    senders = rw used_rewritten senders;
    series = rw used_rewritten series;
    rights = rw used_rewritten rights;
    counts = rw (used_rewritten, day_block_rewritten) counts;
  }

-- A book is its day block and its slots, and bytes joined from blocks of 512 are read as those blocks; what a test says of a block follows from its kind.
use Rattle.std.specs.Prelude.{◌≡◌, ◌∷◌, ◌++◌, ◌+◌, ◌-◌, ◌*◌, ◌/◌, ◌%◌, ◌≤◌, ◌<◌}
use Rattle.laws.specs.Base.{refl, sym, ap, ap₂, ◌∙◌, Bool, true, false, option_get_or, List, [], map, append_assoc, ℕ, zero, suc, arith, length, take, drop, get_or-append, length-drop, drop_at, drop-drop, take_at}
use Rattle.laws.specs.Tests.{◌or◌, is}
use Rattle.laws.specs.Tests.Laws.{split, clash, and_left, and_right, and_both, and_no_left, and_no_right, or_no, or_else, is_yes, is_equal, is_other}
use Rattle.laws.specs.Lists.{same, place, has, until, All, find, further}
use Rattle.laws.specs.Lists.Same.{same_yes, same_equal}
use Rattle.laws.specs.Lists.Each.{all_until, all_get_or, every_all, get_or_inside, get_or_map}
use Rattle.laws.specs.Lists.Search.{has_yes, find_passes}
use Rattle.laws.specs.Lists.Keep.{until_append}
use Rattle.laws.specs.Bytes.{part, value, number}
use Rattle.laws.specs.Cut.{join}
use Rattle.laws.specs.Cut.Laws.{cut_length, block_zero, drop_cut, cut_drop, cut_append, join_length, cut_join, cut_widths}
use Rattle.paper.specs.Check.{check_step, check_from, check_of, check_right}
use Rattle.paper.specs.Layout.{Bytes, Block, blocks, zeros, kind, sender, senders_slot}
use Rattle.paper.specs.Book.{day_block, slots, is_free, used, is_sender, is_series, is_right, numbered, is_sender_block_of, is_series_of}
use Rattle.facts.specs.Layout.{zeros_part, value_zeros}

-- ---- kinds

pub no_block_sender : is_sender [] ≡ false
unfolding is_sender kind number part value is
no_block_sender = refl

pub no_block_series : is_series [] ≡ false
unfolding is_series kind number part value is
no_block_series = refl

pub sender_kind : (b : Block) → is_sender b ≡ true → kind b ≡ 1
unfolding is_sender
sender_kind b t = is_yes _ _ t

pub kind_sender : (b : Block) → kind b ≡ 1 → is_sender b ≡ true
unfolding is_sender
kind_sender b e = is_equal _ _ e

pub series_kind : (b : Block) → is_series b ≡ true → kind b ≡ 2
unfolding is_series
series_kind b t = is_yes _ _ t

pub kind_series : (b : Block) → kind b ≡ 2 → is_series b ≡ true
unfolding is_series
kind_series b e = is_equal _ _ e

pub sender_not_series : (b : Block) → is_sender b ≡ true → is_series b ≡ false
unfolding is_series
sender_not_series b t = is_other _ _ (λ e. omega (arith, sender_kind b t))

pub series_not_sender : (b : Block) → is_series b ≡ true → is_sender b ≡ false
unfolding is_sender
series_not_sender b t = is_other _ _ (λ e. omega (arith, series_kind b t))

pub right_not_sender : (b : Block) → is_right b ≡ true → is_sender b ≡ false
unfolding is_right is_sender
right_not_sender b t = is_other _ _ (λ e. omega (arith, is_yes _ _ t))

pub right_not_series : (b : Block) → is_right b ≡ true → is_series b ≡ false
unfolding is_right is_series
right_not_series b t = is_other _ _ (λ e. omega (arith, is_yes _ _ t))

pub series_not_right : (b : Block) → is_series b ≡ true → is_right b ≡ false
unfolding is_right
series_not_right b t = is_other _ _ (λ e. omega (arith, series_kind b t))

pub sender_not_right : (b : Block) → is_sender b ≡ true → is_right b ≡ false
unfolding is_right
sender_not_right b t = is_other _ _ (λ e. omega (arith, sender_kind b t))

pub right_of_kind : (b c : Block) → kind b ≡ kind c → is_right b ≡ is_right c
unfolding is_right
right_of_kind b c e = ap (λ k. is k 4) e

free_kind : (b : Block) → is_free b ≡ true → kind b ≡ 0
unfolding is_free kind number
free_kind b e = value_zeros (part 0 1 b) (zeros_part 0 1 b e)

-- a sender, a series or a right
pub kind_used : (b : Block) → (is_sender b or is_series b or is_right b) ≡ true → is_free b ≡ false
unfolding is_sender is_series is_right
kind_used b e = split (is_free b)
    (λ t. clash (or_else _ _ e (or_no _ _ (is_other _ _ (λ q. omega (arith, free_kind b t))) (is_other _ _ (λ q. omega (arith, free_kind b t)))))
    (is_other _ _ (λ q. omega (arith, free_kind b t))))
    (λ t. t)

-- ---- the sender block of an EIC, the series of a slot

pub sender_block_sender : (e : Bytes) (b : Block) → is_sender_block_of e b ≡ true → is_sender b ≡ true
unfolding is_sender_block_of
sender_block_sender e b t = and_left _ _ t

pub sender_block_eic : (e : Bytes) (b : Block) → is_sender_block_of e b ≡ true → sender b ≡ e
unfolding is_sender_block_of
sender_block_eic e b t = same_yes _ _ (and_right _ _ t)

pub sender_block_yes : (e : Bytes) (b : Block) → is_sender b ≡ true → sender b ≡ e → is_sender_block_of e b ≡ true
unfolding is_sender_block_of
sender_block_yes e b s q = and_both _ _ s (same_equal _ _ q)

pub sender_block_no : (e : Bytes) (b : Block) → same (sender b) e ≡ false → is_sender_block_of e b ≡ false
unfolding is_sender_block_of
sender_block_no e b q = and_no_right _ _ q

pub sender_block_own : (b : Block) → is_sender b ≡ true → is_sender_block_of (sender b) b ≡ true
sender_block_own b s = sender_block_yes (sender b) b s refl

pub sender_block_series : (e : Bytes) (b : Block) → is_series b ≡ true → is_sender_block_of e b ≡ false
sender_block_series e b s = split (is_sender_block_of e b) (λ t. clash s (sender_not_series b (sender_block_sender e b t))) (λ t. t)

pub series_of_series : (slot : ℕ) (b : Block) → is_series_of slot b ≡ true → is_series b ≡ true
unfolding is_series_of
series_of_series slot b t = and_left _ _ t

pub series_of_slot : (slot : ℕ) (b : Block) → is_series_of slot b ≡ true → senders_slot b ≡ slot
unfolding is_series_of
series_of_slot slot b t = is_yes _ _ (and_right _ _ t)

pub series_of_yes : (slot : ℕ) (b : Block) → is_series b ≡ true → senders_slot b ≡ slot → is_series_of slot b ≡ true
unfolding is_series_of
series_of_yes slot b s e = and_both _ _ s (is_equal _ _ e)

pub series_of_other : (slot : ℕ) (b : Block) → is_series b ≡ false → is_series_of slot b ≡ false
unfolding is_series_of
series_of_other slot b e = and_no_left _ _ e

-- ---- a block by its number

pub all_numbered : (P : Block → Type 0) (l : List Block) (i : ℕ) → P [] → All P l → P (numbered l i)
unfolding numbered
all_numbered P l zero n h = n
all_numbered P l (suc k) n h = all_get_or P l k [] n h

pub numbered_map : (f : Block → Block) (l : List Block) (i : ℕ) → zero < i → i ≤ length l → numbered (map f l) i ≡ f (numbered l i)
unfolding numbered
numbered_map f l zero p h = absurd (omega arith)
numbered_map f l (suc k) p h = get_or_map f l k [] [] (omega arith)

pub numbered_append_left : (l r : List Block) (i : ℕ) → i ≤ length l → numbered (l ++ r) i ≡ numbered l i
unfolding numbered
numbered_append_left l r zero h = refl
numbered_append_left l r (suc k) h = get_or-append l r [] k (omega arith)

-- what passes a test that no absent block passes is inside
pub numbered_inside : (l : List Block) (i : ℕ) (p : Block → Bool) → p [] ≡ false → p (numbered l i) ≡ true → (zero < i) × (i ≤ length l)
unfolding numbered
numbered_inside l zero p n e = clash e n
numbered_inside l (suc k) p n e = let h : k < length l = get_or_inside l k [] p n e in (omega arith, omega arith)

numbered_further : (x : Block) (l : List Block) (n : ℕ) → numbered (x ∷ l) (further n) ≡ numbered l n
unfolding numbered further
numbered_further x l zero = refl
numbered_further x l (suc n) = refl

-- the block at the place of the first that passes is that first
pub numbered_found : (p : Block → Bool) (l : List Block) → numbered l (place p l) ≡ option_get_or (find p l) []
unfolding numbered place find
numbered_found p [] = refl
numbered_found p (x ∷ l) = split (p x) (λ t. rw t) (λ t. rw t (numbered_further x l (place p l) ∙ numbered_found p l))

pub numbered_place : (p : Block → Bool) (l : List Block) → has p l ≡ true → p (numbered l (place p l)) ≡ true
numbered_place p l e = let x = has_yes p l e in rw (numbered_found p l, x.1) (find_passes p l x.0 x.1)

-- ---- a book's bytes and its blocks

pub day_block_append : (d rest : Bytes) → length d ≡ 512 → day_block (d ++ rest) ≡ d
unfolding day_block
day_block_append d rest e = take_at d rest 512 e

pub slots_append : (d rest : Bytes) → length d ≡ 512 → slots (d ++ rest) ≡ blocks rest
unfolding slots
slots_append d rest e = ap blocks (drop_at d rest 512 e)

-- the day block, then the slots
pub blocks_book : (book : Bytes) → 512 ≤ length book → blocks book ≡ day_block book ∷ slots book
unfolding day_block slots
blocks_book book h =
    let i : 0 < length book / 512 = omega arith in
    drop_cut 512 book 0 i ∙ ap₂ ◌∷◌ (block_zero 512 book) (sym (cut_drop 512 book 1))

pub slots_lengths : (book : Bytes) → All (λ x. length x ≡ 512) (slots book)
unfolding slots
slots_lengths book = cut_widths 512 (drop 512 book)

pub slots_length : (book : Bytes) → length (slots book) ≡ length book / 512 - 1
unfolding slots
slots_length book = omega (arith, cut_length 512 (drop 512 book), length-drop 512 book)

pub used_lengths : (book : Bytes) → All (λ x. length x ≡ 512) (used book)
unfolding used
used_lengths book = all_until (λ x. length x ≡ 512) is_free (slots book) (slots_lengths book)

-- bytes made of a day block, used blocks and a rest of free ones
module _ (d : Block) (l : List Block) (rest : Bytes) (day : length d ≡ 512) (lengths : All (λ b. length b ≡ 512) l) where
  pub slots_joined : slots (d ++ join l ++ rest) ≡ l ++ blocks rest
  slots_joined =
      ap slots (append_assoc d (join l) rest) ∙ slots_append d (join l ++ rest) day
      ∙ cut_append 512 (length l) (join l) rest (join_length 512 l lengths) ∙ ap (λ z. z ++ blocks rest) (cut_join 512 l (omega arith) lengths)

  pub used_joined : All (λ b. is_free b ≡ false) l → All (λ b. is_free b ≡ true) (blocks rest) → used (d ++ join l ++ rest) ≡ l
  unfolding used
  used_joined f g = ap (until is_free) slots_joined ∙ until_append is_free l (blocks rest) f g

-- the slots from k on
pub slots_rest : (book : Bytes) (k : ℕ) → blocks (drop (512 + 512 * k) book) ≡ drop k (slots book)
unfolding slots
slots_rest book k = ap blocks (sym (drop-drop (512 * k) 512 book)) ∙ cut_drop 512 (drop 512 book) k

-- ---- a free slot's check is right

check_zeros : (b : Bytes) → zeros b ≡ true → check_from 0 b ≡ 0
unfolding zeros check_from check_step
check_zeros b e = by b (every_all _ b e)
  where
    by : (l : Bytes) → All (λ x. is x 0 ≡ true) l → check_from 0 l ≡ 0
    by [] h = refl
    by (x ∷ l) h = let i : x ≡ 0 = is_yes _ _ h.0 in let z : (32 * 0 - 0 + x) % 4294967296 ≡ 0 = omega arith in rw z (by l h.1)

pub free_right : (b : Block) → is_free b ≡ true → check_right b ≡ true
unfolding check_right check_of is_free number part
free_right b e = is_equal _ _ (value_zeros (part 508 4 b) (zeros_part 508 4 b e) ∙ sym (check_zeros (take 508 b) (zeros_part 0 508 b e)))

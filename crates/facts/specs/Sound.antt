-- What soundness says, as records: whoever needs a clause takes it here by name, and no other file counts the conjuncts of the definition.
use Rattle.std.specs.Prelude.{◌≡◌, ◌/◌, ◌%◌, ◌≤◌}
use Rattle.laws.specs.Base.{true, false, List, ℕ, arith, length, drop, length-take-le}
use Rattle.laws.specs.Tests.{◌or◌, is}
use Rattle.laws.specs.Tests.Laws.{split, and_left, and_right, and_both, or_no, or_yes_left, or_yes_right, or_else, neg_true, neg_false, is_yes, is_equal, upto_yes, upto_true}
use Rattle.laws.specs.Lists.{apart, All}
use Rattle.laws.specs.Lists.Each.{every_all, all_every}
use Rattle.laws.specs.Lists.Keep.{until_length}
use Rattle.paper.specs.Check.{check_right}
use Rattle.paper.specs.Layout.{Bytes, Block, blocks, n_of, sender, senders_slot, pair, differing, area}
use Rattle.paper.specs.Ranges.{whole_blocks, n_allowed}
use Rattle.paper.specs.Book.{day_block, slots, is_free, used, is_sender, is_series, is_right, is_external, numbered}
use Rattle.paper.specs.Sound.{day_fields, day_sound, used_first, sender_sound, parties_of, owner_sound, areas_allowed, type_allowed, capacity_allowed, series_fields, series_codes, series_sound, right_sound, used_sound, same_sender, same_series, same_right, differing_sound, sound_over, differing_allowed, sound}
use Rattle.facts.specs.Book.{series_not_sender, right_not_sender, series_not_right, slots_length}

-- ---- the book

pub record Sound (book : Bytes) : Type 0 where
  pub whole : length book % 512 ≡ 0
  pub least : 2 ≤ length book / 512
  pub most : length book / 512 ≤ 1001
  pub checks : All (λ x. check_right x ≡ true) (blocks book)
  pub day : day_sound (day_block book) ≡ true
  pub free : All (λ x. is_free x ≡ true) (drop (length (used book)) (slots book))
  pub each : All (λ x. used_sound (day_block book) (used book) x ≡ true) (used book)
  pub senders : apart same_sender (used book) ≡ true
  pub series : apart same_series (used book) ≡ true
  pub rights : apart same_right (used book) ≡ true
  pub counts : All (λ x. differing_sound differing_allowed (n_of (day_block book)) x ≡ true) (used book)

pub sound_says : (book : Bytes) → sound book ≡ true → Sound book
unfolding sound sound_over whole_blocks used_first
sound_says book s =
    let r = and_left _ _ s in
    let s0 = and_left _ _ r in
    let s1 = and_left _ _ s0 in
    let s2 = and_left _ _ s1 in
    let s3 = and_left _ _ s2 in
    let s4 = and_left _ _ s3 in
    let s5 = and_left _ _ s4 in
    let s6 = and_left _ _ s5 in
    record {
      whole = is_yes _ _ (and_left _ _ (and_left _ _ s6));
      least = upto_yes _ _ (and_right _ _ (and_left _ _ s6));
      most = upto_yes _ _ (and_right _ _ s6);
      checks = every_all _ _ (and_right _ _ s5);
      day = and_right _ _ s4;
      free = every_all _ _ (and_right _ _ s3);
      each = every_all _ _ (and_right _ _ s2);
      senders = and_right _ _ s1;
      series = and_right _ _ s0;
      rights = and_right _ _ r;
      counts = every_all _ _ (and_right _ _ s);
    }

pub is_sound : (book : Bytes) → Sound book → sound book ≡ true
unfolding sound sound_over whole_blocks used_first
is_sound book s =
    and_both _ _
    (and_both _ _
    (and_both _ _
    (and_both _ _
    (and_both _ _
    (and_both _ _
    (and_both _ _
    (and_both _ _ (and_both _ _ (and_both _ _ (is_equal _ _ s.whole) (upto_true _ _ s.least)) (upto_true _ _ s.most)) (all_every _ _ s.checks))
    s.day) (all_every _ _ s.free)) (all_every _ _ s.each)) s.senders) s.series) s.rights) (all_every _ _ s.counts)

module _ (book : Bytes) (s : Sound book) where
  pub book_least : 1024 ≤ length book
  book_least = let h : 2 ≤ length book / 512 = s.least in omega arith

  pub day_block_length : length (day_block book) ≡ 512
  unfolding day_block
  day_block_length = length-take-le 512 book (omega (arith, book_least))

  pub used_few : length (used book) ≤ 1000
  unfolding used
  used_few = let h : length book / 512 ≤ 1001 = s.most in omega (arith, until_length is_free (slots book), slots_length book)

-- ---- the day block

n_small : (n : ℕ) → n_allowed n ≡ true → n ≤ 100
unfolding n_allowed
n_small n e =
    split (is n 92) (λ t. omega (arith, is_yes n 92 t))
    (λ t. split (is n 96) (λ s. omega (arith, is_yes n 96 s)) (λ s. omega (arith, is_yes n 100 (or_else _ _ e (or_no _ _ t s)))))

n_allowed_lem : (d : Block) → day_sound d ≡ true → n_allowed (n_of d) ≡ true
unfolding day_sound day_fields
n_allowed_lem d e = and_right _ _ (and_left _ _ (and_left _ _ (and_left _ _ (and_left _ _ (and_left _ _ (and_left _ _ (and_left _ _ e)))))))

pub day_n : (d : Block) → day_sound d ≡ true → n_of d ≤ 100
day_n d e = n_small _ (n_allowed_lem d e)

n_large : (n : ℕ) → n_allowed n ≡ true → 92 ≤ n
unfolding n_allowed
n_large n e =
    split (is n 92) (λ t. omega (arith, is_yes n 92 t))
    (λ t. split (is n 96) (λ s. omega (arith, is_yes n 96 s)) (λ s. omega (arith, is_yes n 100 (or_else _ _ e (or_no _ _ t s)))))

pub day_n_least : (d : Block) → day_sound d ≡ true → 92 ≤ n_of d
day_n_least d e = n_large _ (n_allowed_lem d e)

-- ---- a used slot: a sound sender, a sound right or a sound series

module _ (d : Block) (us : List Block) (x : Block) (q : used_sound d us x ≡ true) where
  pub used_sender : is_sender x ≡ true → sender_sound d us x ≡ true
  unfolding used_sound
  used_sender t = rw t at q

  pub used_series : is_series x ≡ true → series_sound d us x ≡ true
  unfolding used_sound
  used_series t = and_right _ _ (rw (series_not_sender x t, series_not_right x t) at q)

  pub used_right : is_right x ≡ true → right_sound d x ≡ true
  unfolding used_sound
  used_right t = rw (right_not_sender x t, t) at q

  pub used_other : is_sender x ≡ false → is_right x ≡ false → is_series x ≡ true
  unfolding used_sound
  used_other t u = and_left _ _ (rw (t, u) at q)

  pub used_kind : (is_sender x or is_series x or is_right x) ≡ true
  used_kind = split (is_sender x)
      (λ t. or_yes_left _ _ (or_yes_left _ _ t))
      (λ t. split (is_right x) (λ u. or_yes_right _ _ u) (λ u. or_yes_left _ _ (or_yes_right _ _ (used_other t u))))

-- the sender that a series names, and its part in the trade
pub series_owner : (d : Block) (us : List Block) (x : Block) → series_sound d us x ≡ true
    → (is_sender (numbered us (senders_slot x)) ≡ true) × (parties_of (is_external x) (sender (numbered us (senders_slot x))) (pair x) ≡ true)
unfolding series_sound owner_sound
series_owner d us x e = let o = and_right _ _ (and_left _ _ e) in (and_left _ _ o, and_right _ _ o)

-- its areas, its type and its capacity fields
module _ (d : Block) (us : List Block) (x : Block) (e : series_sound d us x ≡ true) where
  pub series_areas : areas_allowed (area d) x ≡ true
  unfolding series_sound series_codes
  series_areas = and_left _ _ (and_left _ _ (and_right _ _ (and_left _ _ (and_left _ _ (and_left _ _ e)))))

  pub series_type : type_allowed x ≡ true
  unfolding series_sound series_fields
  series_type = and_right _ _ (and_left _ _ (and_left _ _ (and_left _ _ (and_left _ _ (and_left _ _ (and_left _ _ e))))))

  pub series_capacity : capacity_allowed x ≡ true
  unfolding series_sound series_fields
  series_capacity = and_right _ _ (and_left _ _ (and_left _ _ (and_left _ _ (and_left _ _ (and_left _ _ e)))))

-- the count of a series' mark
module _ (n : ℕ) (x : Block) where
  pub count_most : differing_sound differing_allowed n x ≡ true → is_series x ≡ true → differing x ≤ n
  unfolding differing_sound differing_allowed
  count_most e t = upto_yes _ _ (or_else _ _ e (neg_false _ t))

  pub count_allowed_lem : (is_series x ≡ true → differing x ≤ n) → differing_sound differing_allowed n x ≡ true
  unfolding differing_sound differing_allowed
  count_allowed_lem f = split (is_series x) (λ t. or_yes_right _ _ (upto_true _ _ (f t))) (λ t. or_yes_left _ _ (neg_true _ t))

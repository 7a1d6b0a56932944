-- What a sound book says of its length and of n, and the answer from what is found.
use Rattle.std.specs.Prelude.{◌≡◌, ◌&&◌, ◌/◌, ◌≤◌}
use Rattle.laws.specs.Kit.{ap, ◌∙◌, Bool, true, false, ℕ, arith, length, ◌and◌}
use Rattle.laws.specs.Lists.{every}
use Rattle.laws.specs.Bytes.{part}
use Rattle.laws.specs.Cut.{cut}
use Rattle.paper.specs.Layout.{Bytes, n_of, area}
use Rattle.paper.specs.Book.{day_block, used}
use Rattle.paper.specs.Sound.{sound}
use Rattle.paper.specs.PlainRun.{mark_true, nets_true, plain_run}
use Rattle.facts.specs.Sound.{sound_says, day_n}

-- ---- a sound book

module _ (book : Bytes) (e : sound book ≡ true) where
  pub sound_length : length book ≤ 513023
  sound_length = let h : length book / 512 ≤ 1001 = (sound_says book e).most in omega arith

  pub sound_n : n_of (day_block book) ≤ 100
  sound_n = day_n (day_block book) (sound_says book e).day

-- ---- the answer

pub n_day : (book p : Bytes) (n : ℕ) → n ≡ n_of p → p ≡ part 0 512 book → n ≡ n_of (day_block book)
unfolding day_block part
n_day book p n e q = e ∙ ap n_of q

pub not_sound : (book : Bytes) → sound book ≡ false → record { number = 1; holds = false } ≡ plain_run book
unfolding plain_run
not_sound book e = rw e

pub area_day : (book p ours : Bytes) → ours ≡ area p → p ≡ part 0 512 book → ours ≡ area (day_block book)
unfolding day_block part
area_day book p ours e q = e ∙ ap area q

-- n and area of the day, the used slots us, and what is found of their marks m and of their nets t
pub found : (book ours us : Bytes) (n : ℕ) (m t : Bool) → sound book ≡ true → n ≡ n_of (day_block book) → ours ≡ area (day_block book) → cut 512 us ≡ used book
    → m ≡ every (mark_true n (cut 512 us)) (cut 512 us) → t ≡ every (nets_true ours (cut 512 us)) (cut 512 us) → record { number = 0; holds = m && t } ≡ plain_run book
unfolding plain_run ◌and◌
found book ours us n m t e d o u p q = rw (e, ← d, ← o, ← u, ← p, ← q)

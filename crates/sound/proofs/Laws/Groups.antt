-- The group of a block, and that each group has its bucket.
use Rattle.std.specs.Prelude.{◌≡◌, ◌/◌, ◌≤◌, ◌<◌}
use Rattle.laws.specs.Kit.{ap, Bool, true, List, [], ℕ, arith, length, get_or, is, split, and_left, and_right}
use Rattle.laws.specs.Lists.{every}
use Rattle.laws.specs.Lists.Each.{all_imply, all_get_or_inside, every_all}
use Rattle.laws.specs.Cut.{cut}
use Rattle.laws.specs.Cut.Laws.{cut_length}
use Rattle.paper.specs.Layout.{Bytes, Block, senders_slot}
use Rattle.paper.specs.Book.{is_sender, is_series, is_right}
use Rattle.paper.specs.Sound.{owner_sound, series_sound}
use Rattle.facts.specs.Book.{no_block_sender, series_not_sender, series_not_right, numbered_inside}
use Rattle.sound.specs.Used.{used_fields}
use Rattle.index.specs.Linked.{Told}
use Rattle.std.specs.Prelude.{Option, Some}
use Rattle.std.specs.Option.{unwrap_or}
use Rattle.laws.specs.Kit.{refl}
use Rattle.sound.specs.Links.{group, in_group, Grouped}

-- a series names a sender's slot, one of at most 1,000
block_grouped : (allowed : ℕ → ℕ → Bool) (d : Block) (us : List Block) (b : Block) → length us ≤ 1000 → used_fields allowed d us b ≡ true → group b < 1024
unfolding used_fields group series_sound owner_sound
block_grouped allowed d us b h e =
    split (is_series b)
    (λ t.
    let q = and_right _ _ (and_left _ _ (rw (series_not_sender b t, series_not_right b t) at e)) in
    let i = numbered_inside us (senders_slot b) is_sender no_block_sender (and_left _ _ (and_right _ _ (and_left _ _ q))) in
    rw t (omega (arith, i.1)))
    (λ t. split (is_right b) (λ r. rw (t, r) (omega arith)) (λ r. rw (t, r) (omega arith)))

pub fields_grouped : (allowed : ℕ → ℕ → Bool) (d : Block) (s : Bytes) → length s / 512 ≤ 1000 → every (used_fields allowed d (cut 512 s)) (cut 512 s) ≡ true → Grouped (cut 512 s)
unfolding Grouped
fields_grouped allowed d s h e =
    all_imply (λ b. used_fields allowed d (cut 512 s) b ≡ true) (λ b. group b < 1024) (λ b. block_grouped allowed d (cut 512 s) b (rw (cut_length 512 s) h)) (cut 512 s) (every_all _ (cut 512 s) e)

-- the group of block i has its bucket
pub grouped_inside : (s : Bytes) → Grouped (cut 512 s) → (i : ℕ) → i < length s / 512 → group (get_or (cut 512 s) i []) < 1024
unfolding Grouped
grouped_inside s a i h = all_get_or_inside (λ x. group x < 1024) (cut 512 s) i [] (rw (cut_length 512 s) h) a

-- a block is linked in the bucket of its group alone
pub group_bucket : (x : Block) {b : ℕ} → b ≡ group x → (g : ℕ) → in_group g x ≡ is b g
unfolding in_group
group_bucket x e g = rw e

pub told_group : (x : Block) (r : Option ℕ) → r ≡ Some (group x) → Told in_group x r
told_group x r e = rw e (group_bucket x refl)

pub some_inside : {g v : ℕ} → Some g ≡ Some v → v < 1024 → g < 1024
some_inside e h = let q = ap (λ o. unwrap_or o 0) e in rw q h

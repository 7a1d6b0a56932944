-- What the series add has the remainder of the net: what is sold is added as what it lacks to 2 to the 32, and no sum is above the 2 to the 52
-- that the definition adds.
use Rattle.std.specs.Prelude.{◌≡◌, ◌∷◌, ◌+◌, ◌-◌, ◌*◌, ◌≤◌, ◌<◌, ◌%◌}
use Rattle.laws.specs.Kit.{refl, Bool, cond, List, [], ℕ, arith, length, get_or, split, suc}
use Rattle.std.proofs.Common.{w8, Fits}
use Rattle.laws.specs.Lists.{total, keep, All}
use Rattle.laws.specs.Lists.Each.{all_imply, all_keep}
use Rattle.laws.specs.Lists.Count.{total_keep, total_bound}
use Rattle.laws.specs.Lists.Keep.{keep_length}
use Rattle.laws.specs.Bytes.Laws.{number_small}
use Rattle.laws.specs.Cut.{cut}
use Rattle.laws.specs.Cut.Laws.{cut_length, cut_all}
use Rattle.paper.specs.Layout.{Bytes, Block, quantity}
use Rattle.paper.specs.Nets.{goes_out, bought, sold, net_of}
use Rattle.nets.specs.Sums.{bought_share, sold_share, share, share_if, shares}

-- ---- few blocks of bytes

all_bytes : (b : Bytes) → ((i : ℕ) → Fits w8 (get_or b i 0)) → All (λ y. y < 256) b
all_bytes [] f = tt
all_bytes (x ∷ b) f = (omega (arith, f 0), all_bytes b (λ i. f (suc i)))

pub record Few (l : List Block) : Type 0 where
  pub bytes : All (λ x. All (λ y. y < 256) x) l
  pub few : length l ≤ 524288

pub few_cut : (b : Bytes) → ((i : ℕ) → Fits w8 (get_or b i 0)) → length b ≤ 268435456 → Few (cut 512 b)
few_cut b f h = record { bytes = cut_all (λ y. y < 256) 512 b (all_bytes b f); few = rw (cut_length 512 b) (omega arith) }

pub few_keep : (p : Block → Bool) (l : List Block) → Few l → Few (keep p l)
few_keep p l f = record { bytes = all_keep (λ x. All (λ y. y < 256) x) p l f.bytes; few = omega (arith, keep_length p l, f.few) }

quantity_small : (x : Block) (k : ℕ) → All (λ y. y < 256) x → quantity x k < 4294967296
unfolding quantity
quantity_small x k h = number_small 4 (108 + 4 * k) x h

-- ---- what the series add, and what is bought and sold

sold_step : (q a s b c : ℕ) → q < 4294967296 → (a + s) % 4294967296 ≡ c % 4294967296 → (b + (4294967296 - q) + a + (q + s)) % 4294967296 ≡ (b + c) % 4294967296
sold_step q a s b c h e = omega arith

other_step : (a s b c : ℕ) → (a + s) % 4294967296 ≡ c % 4294967296 → (b + 0 + a + (0 + s)) % 4294967296 ≡ (b + c) % 4294967296
other_step a s b c e = omega arith

balance : (o e : Bytes) (k : ℕ) (l : List Block) → All (λ x. All (λ y. y < 256) x) l → (shares (share o e) l k + sold o e l k) % 4294967296 ≡ bought o e l k % 4294967296
unfolding shares share bought_share sold_share sold bought total
balance o e k [] h = refl
balance o e k (x ∷ xs) h =
    split (goes_out o e x) (λ t. rw t (sold_step (quantity x k) _ _ _ _ (quantity_small x k h.0) (balance o e k xs h.1)))
    (λ t. rw t (other_step _ _ _ _ (balance o e k xs h.1)))

sold_small : (o e : Bytes) (l : List Block) (k : ℕ) → Few l → sold o e l k ≤ 4503599627370496
unfolding sold
sold_small o e l k f =
    omega (
      arith,
      f.few,
      total_bound (λ x. cond (goes_out o e x) (quantity x k) 0) 4294967296 l
          (all_imply (λ x. All (λ y. y < 256) x) (λ x. cond (goes_out o e x) (quantity x k) 0 ≤ 4294967296) one l f.bytes),
    )
  where
    one : (x : Block) → All (λ y. y < 256) x → cond (goes_out o e x) (quantity x k) 0 ≤ 4294967296
    one x h = split (goes_out o e x) (λ t. rw t (omega (arith, quantity_small x k h))) (λ t. rw t (omega arith))

by_offset : (a s b : ℕ) → s ≤ 4503599627370496 → (a + s) % 4294967296 ≡ b % 4294967296 → (4503599627370496 + b - s) % 4294967296 ≡ a % 4294967296
by_offset a s b h e = omega arith

pub net_shares : (o e : Bytes) (l : List Block) (k : ℕ) → Few l → net_of o e l k ≡ shares (share o e) l k % 4294967296
unfolding net_of
net_shares o e l k f = by_offset (shares (share o e) l k) (sold o e l k) (bought o e l k) (sold_small o e l k f) (balance o e k l f.bytes)

-- of the blocks that pass
pub shares_kept : (p : Block → Bool) (o e : Bytes) (l : List Block) (k : ℕ) → shares (share o e) (keep p l) k ≡ shares (share_if p o e) l k
unfolding shares share_if
shares_kept p o e l k = total_keep (λ x. share o e x k) p l

-- Sums known by their remainder by 2 to the 32: a net is wanted as a number of four bytes, and additions and differences keep remainders.
use Rattle.std.specs.Prelude.{◌≡◌, Bool, ℕ, ◌+◌, ◌-◌, ◌%◌, ◌<◌, cond, List, slice_index}
use Rattle.laws.specs.Lists.{total}
use Rattle.paper.specs.Layout.{Bytes, Block, quantity}
use Rattle.paper.specs.Nets.{comes_in, goes_out}

-- after is before with g k added to each of the first n sums
unfoldable pub Raised : ℕ → (ℕ → ℕ) → List ℕ → List ℕ → Type 0
Raised n g before after = (k : ℕ) → k < n → slice_index after k % 4294967296 ≡ (slice_index before k + g k) % 4294967296

-- what a series adds to the net of e at position k + 1 if it counts +; if it counts −, where a number is taken away by adding what it lacks to 2 to
-- the 32. ours is the day block's area
unfoldable pub bought_share : (ours e : Bytes) → Block → ℕ → ℕ
bought_share ours e x k = cond (comes_in ours e x) (quantity x k) 0

unfoldable pub sold_share : (ours e : Bytes) → Block → ℕ → ℕ
sold_share ours e x k = cond (goes_out ours e x) (4294967296 - quantity x k) 0

unfoldable pub share : (ours e : Bytes) → Block → ℕ → ℕ
share ours e x k = bought_share ours e x k + sold_share ours e x k

-- of a block that does not pass, nothing
unfoldable pub share_if : (Block → Bool) → (ours e : Bytes) → Block → ℕ → ℕ
share_if p ours e x k = cond (p x) (share ours e x k) 0

-- what all blocks of l add
unfoldable pub shares : (Block → ℕ → ℕ) → List Block → ℕ → ℕ
shares s l k = total (λ x. s x k) l

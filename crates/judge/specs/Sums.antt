-- The sums on one right, position by position, as they are kept from one series of a message to the next. rights has of each series the place of the right
-- on which it is sent, 0 where it is on none.
use Rattle.std.specs.Prelude.{◌≡◌, Bool, cond, List, [], ℕ, zero, suc, ◌+◌, ◌*◌, ◌≤◌, ◌<◌, length, get_or}
use Rattle.laws.specs.Tests.{is}
use Rattle.paper.specs.Layout.{Block, quantity}

-- of the first i series those on a right, at position k + 1
unfoldable pub sum_to : (rights : List ℕ) (series : List Block) (right : ℕ) (i k : ℕ) → ℕ
sum_to rights series right zero k = 0
sum_to rights series right (suc i) k = sum_to rights series right i k + cond (is (get_or rights i 0) right) (quantity (get_or series i []) k) 0

unfoldable pub SumsTo : (rights : List ℕ) (series : List Block) (right i : ℕ) (sums : List ℕ) → Type 0
SumsTo rights series right i sums = (k : ℕ) → k < 100 → get_or sums k 0 ≡ sum_to rights series right i k

unfoldable pub Cleared : (n : ℕ) (sums : List ℕ) → Type 0
Cleared n sums = (length sums ≡ 100) × ((k : ℕ) → k < n → get_or sums k 0 ≡ 0)

-- after is before with the first n quantities of y added, if on says so
unfoldable pub Added : (on : Bool) (n : ℕ) (y : Block) (before after : List ℕ) → Type 0
Added on n y before after =
    (length after ≡ length before)
    × ((k : ℕ) → k < n → (get_or after k 0 ≡ get_or before k 0 + cond on (quantity y k) 0) × (get_or after k 0 ≤ get_or before k 0 + 4294967295))

-- there are a hundred, and none is above that of i quantities, each a number of four bytes
unfoldable pub AtMost : (i : ℕ) (sums : List ℕ) → Type 0
AtMost i sums = (length sums ≡ 100) × ((k : ℕ) → k < 100 → get_or sums k 0 ≤ 4294967295 * i)

-- the sums of the first i series on the right at the place on; they are nothing's where that is 0
pub record Kept (rights : List ℕ) (series : List Block) (on i : ℕ) (sums : List ℕ) : Type 0 where
  pub sum : (on ≡ 0 → ⊥) → SumsTo rights series on i sums
  pub most : AtMost i sums

-- The finals of the pairs in a row, each at the first slot that has its pair, and what a party has of them on one side.
use Rattle.std.specs.Prelude.{◌≡◌, cond, List, [], ℕ, zero, suc, ◌+◌, ◌<◌, get_or}
use Rattle.laws.specs.Tests.{◌or◌, neg, is, less}
use Rattle.laws.specs.Lists.{same}
use Rattle.paper.specs.declared.Rule.{Rule}
use Rattle.paper.specs.Layout.{Bytes, Block, n_of}
use Rattle.paper.specs.Rules.{closed}
use Rattle.paper.specs.Finals.{final_of, held, held_at}
use Rattle.paper.specs.Settled.{buyer_of, seller_of}
use Rattle.facts.specs.Settled.{counted_at}

-- the final of a pair by a rule, at position k + 1, once that is known to be closed
unfoldable pub value_of : (rule : Rule) (us : List Block) (k : ℕ) (parties : Bytes) → ℕ
value_of rule us k parties = final_of rule (held_at (held us (seller_of parties) parties) k) (held_at (held us (buyer_of parties) parties) k)

-- those of the first i slots
unfoldable pub Valued : (rule : Rule) (us : List Block) (k : ℕ) (i : ℕ) (values : List ℕ) → Type 0
Valued rule us k i values = (j : ℕ) → j < i → get_or values j 0 ≡ counted_at us (value_of rule us k) j

-- of the first i slots what the party has on one side
unfoldable pub side_sum : (side : Block → Bytes) (party : Bytes) (us : List Block) (values : List ℕ) (i : ℕ) → ℕ
side_sum side party us values zero = 0
side_sum side party us values (suc i) = side_sum side party us values i + cond (same (side (get_or us i [])) party) (get_or values i 0) 0

-- why a position is refused: 24, 25, else 0
unfoldable pub position_number : (day : Block) (position : ℕ) → ℕ
position_number day position = cond (is position 0 or less (n_of day) position) 24 (cond (neg (closed day position)) 25 0)

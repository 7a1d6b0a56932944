-- "Every sender's net is the sum of its quantities as in party less those as out party." e is the sender, series are its series; ours is the day block's area.
use Rattle.std.specs.Prelude.{Bool, cond, List, [], ◌++◌, ℕ, zero, suc, ◌+◌, ◌-◌, ◌%◌}
use Rattle.laws.specs.Lists.{same, total}
use Rattle.laws.specs.Bytes.{little}
use Rattle.paper.specs.Layout.{Bytes, Block, in_area, out_area, in_party, out_party, quantity}
use Rattle.paper.specs.Book.{is_external}

-- "In the net an A03 or A06 series counts + if ours is the in area, − if the out area, whatever its parties"
unfoldable pub comes_in : (ours : Bytes) (e : Bytes) (x : Block) → Bool
comes_in ours e x = cond (is_external x) (same (in_area x) ours) (same (in_party x) e)

unfoldable pub goes_out : (ours : Bytes) (e : Bytes) (x : Block) → Bool
goes_out ours e x = cond (is_external x) (same (out_area x) ours) (same (out_party x) e)

-- the quantities at position k + 1 of the series that count +
unfoldable pub bought : (ours : Bytes) (e : Bytes) (series : List Block) (k : ℕ) → ℕ
bought ours e series k = total (λ x. cond (comes_in ours e x) (quantity x k) 0) series

-- of those that count −
unfoldable pub sold : (ours : Bytes) (e : Bytes) (series : List Block) (k : ℕ) → ℕ
sold ours e series k = total (λ x. cond (goes_out ours e x) (quantity x k) 0) series

-- the net at position k + 1 as a signed number of four bytes: its remainder by 2 to the 32. 2 to the 52, a multiple of that,
-- is above every sum of fewer than 2 to the 20 quantities
unfoldable pub net_of : (ours : Bytes) (e : Bytes) (series : List Block) (k : ℕ) → ℕ
net_of ours e series k = (4503599627370496 + bought ours e series k - sold ours e series k) % 4294967296

-- the bytes of the first k nets
unfoldable pub nets_to : (ours : Bytes) (e : Bytes) (series : List Block) (k : ℕ) → Bytes
nets_to ours e series zero = []
nets_to ours e series (suc k) = nets_to ours e series k ++ little 4 (net_of ours e series k)

-- of all hundred
unfoldable pub nets_of : (ours : Bytes) (e : Bytes) (series : List Block) → Bytes
nets_of ours e series = nets_to ours e series 100

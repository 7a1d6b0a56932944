-- C-20: "In any sound book and at any closed position, give each party that appears in an A02 series its settled position: finals as buyer less finals as
-- seller, each pair counted once." Whether marks and nets are true makes no difference: of them only what soundness asks is asked. That the sum over the parties is 0 is
-- promise 11. p is a pair: 32 bytes, the in party, who buys, and then the out party, who sells.
use Rattle.std.specs.Prelude.{Bool, cond, List, [], ◌∷◌, ◌++◌, map, ℕ, take, drop}
use Rattle.laws.specs.Tests.{◌and◌, ◌or◌, neg, is, less}
use Rattle.laws.specs.Lists.{same, keep, total, once}
use Rattle.paper.specs.declared.SettledAnswer.{SettledAnswer}
use Rattle.paper.specs.Layout.{Bytes, Block, n_of, in_party, out_party, pair}
use Rattle.paper.specs.Book.{day_block, used, is_series, is_trade}
use Rattle.paper.specs.Sound.{sound}
use Rattle.paper.specs.Rules.{closed}
use Rattle.paper.specs.Finals.{final_in}

-- "an A02 series". The kind is asked too: a sender block has its count where a series has its business type
unfoldable pub is_trade_series : (b : Block) → Bool
is_trade_series b = is_series b and is_trade b

-- "each party that appears in an A02 series", as often as it appears, by ascending slot; of a series the in party first
unfoldable pub appearing : (us : List Block) → List Bytes
appearing [] = []
appearing (b ∷ us) = cond (is_trade_series b) (in_party b ∷ out_party b ∷ []) [] ++ appearing us

-- "the list of parties, each once"
unfoldable pub parties : (us : List Block) → List Bytes
parties us = once (appearing us)

-- "each pair counted once", though both sides file it; (A, B) and (B, A) are two
unfoldable pub trade_pairs : (us : List Block) → List Bytes
trade_pairs us = once (map pair (keep is_trade_series us))

unfoldable pub buyer_of : (p : Bytes) → Bytes
buyer_of p = take 16 p

unfoldable pub seller_of : (p : Bytes) → Bytes
seller_of p = drop 16 p

-- the final of a pair by the book's own rule: the kilowatts that the call for a final value gives, 0 where it refuses
unfoldable pub final_of_pair : (day : Block) (us : List Block) (position : ℕ) (p : Bytes) → ℕ
final_of_pair day us position p = (final_in day us (seller_of p) (buyer_of p) position).kilowatts

-- "finals as buyer". Not Nets.bought, which adds a sender's own quantities, those of external schedules too
unfoldable pub bought_by : (day : Block) (us : List Block) (position : ℕ) (party : Bytes) → ℕ
bought_by day us position party = total (λ p. cond (same (buyer_of p) party) (final_of_pair day us position p) 0) (trade_pairs us)

-- "finals as seller"
unfoldable pub sold_by : (day : Block) (us : List Block) (position : ℕ) (party : Bytes) → ℕ
sold_by day us position party = total (λ p. cond (same (seller_of p) party) (final_of_pair day us position p) 0) (trade_pairs us)

abbrev pub settled_refused : (number : ℕ) → SettledAnswer
settled_refused number = record { number = number; bought = 0; sold = 0 }

-- the sums as buyer and as seller; the settled position is the first less the second. Refusals as for a final value: 24, 25. A party in no A02 series has 0 and 0
unfoldable pub settled_in : (day : Block) (us : List Block) (party : Bytes) (position : ℕ) → SettledAnswer
settled_in day us party position =
    cond (is position 0 or less (n_of day) position) (settled_refused 24)
    (cond (neg (closed day position)) (settled_refused 25)
    (record { number = 0; bought = bought_by day us position party; sold = sold_by day us position party }))

-- 1 where the book is not sound, else these
unfoldable pub settled : (book : Bytes) (party : Bytes) (position : ℕ) → SettledAnswer
settled book party position = cond (sound book) (settled_in (day_block book) (used book) party position) (settled_refused 1)

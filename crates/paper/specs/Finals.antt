-- "Final value of (out party, in party, position)". The seller is the out party, the buyer the in party.
use Rattle.std.specs.Prelude.{Bool, true, false, cond, List, [], ◌++◌, ℕ, ◌-◌}
use Rattle.std.proofs.Math.Option.{Option, none, some, map, get_or}
use Rattle.laws.specs.Tests.{◌or◌, neg, is, less}
use Rattle.laws.specs.Lists.{find}
use Rattle.paper.specs.declared.Rule.{Rule}
use Rattle.paper.specs.declared.FinalAnswer.{FinalAnswer}
use Rattle.paper.specs.Layout.{Bytes, Block, n_of, rule_of, lesser_rule, same_rule, quantities, entry}
use Rattle.paper.specs.Book.{day_block, used, slot_of, is_trade_of}
use Rattle.paper.specs.Sound.{sound}
use Rattle.paper.specs.Rules.{closed}

-- "the lesser of the two quantities"
unfoldable pub lesser_of : (sellers : ℕ) (buyers : ℕ) → ℕ
lesser_of sellers buyers = cond (less buyers sellers) buyers sellers

-- "the seller's quantity", or the lesser, as the book's rule says: 000 leaves the choice of side to market rules; these two are ours, and this is the one place that
-- chooses
unfoldable pub final_of : (rule : Rule) (sellers : ℕ) (buyers : ℕ) → ℕ
final_of rule sellers buyers = cond (same_rule rule lesser_rule) (lesser_of sellers buyers) sellers

-- the quantities that party e has in its trade between these parties: "marks and finals pair A02 only"
unfoldable pub held : (us : List Block) (e : Bytes) (parties : Bytes) → Option Bytes
held us e parties = map quantities (find (is_trade_of (slot_of us e) (some parties)) us)

unfoldable pub is_held : Option Bytes → Bool
is_held none = false
is_held (some quantities) = true

-- the quantity at position k + 1, "a missing series counting 0", the seller's or the buyer's
unfoldable pub held_at : (found : Option Bytes) (k : ℕ) → ℕ
held_at found k = entry (get_or found []) k

abbrev pub final_refused : (number : ℕ) → FinalAnswer
final_refused number = record { number = number; kilowatts = 0 }

-- "24 position 0 or above n, 25 not closed, 26 neither party has that pair"
unfoldable pub final_in : (day : Block) (us : List Block) (seller : Bytes) (buyer : Bytes) (position : ℕ) → FinalAnswer
final_in day us seller buyer position =
    cond (is position 0 or less (n_of day) position) (final_refused 24)
    (cond (neg (closed day position)) (final_refused 25)
    (cond (neg (is_held (held us seller (buyer ++ seller)) or is_held (held us buyer (buyer ++ seller)))) (final_refused 26)
    (record { number = 0; kilowatts = final_of (rule_of day) (held_at (held us seller (buyer ++ seller)) (position - 1)) (held_at (held us buyer (buyer ++ seller)) (position - 1)) })))

-- 1, then these
unfoldable pub final : (book : Bytes) (seller : Bytes) (buyer : Bytes) (position : ℕ) → FinalAnswer
final book seller buyer position = cond (sound book) (final_in (day_block book) (used book) seller buyer position) (final_refused 1)

-- Demand 3: the plain matching rule. It reads the list of accepted messages, oldest first, and nothing of the book; the slot that a mark names is
-- told it, and it "is also given the day block's area", ours.
use Rattle.std.specs.Prelude.{cond, List, [], ◌∷◌, ℕ, take, drop}
use Rattle.std.proofs.Math.Option.{Option, none, some, map, get_or}
use Rattle.laws.specs.Lists.{same, find}
use Rattle.paper.specs.Layout.{Bytes, Block, n_of, sender, quantities}
use Rattle.paper.specs.Message.{head_of, series_of}
use Rattle.paper.specs.Book.{trade_is}
use Rattle.paper.specs.Marks.{mark_of}
use Rattle.paper.specs.Nets.{nets_of}

-- the later message where there is one, else the earlier
unfoldable pub or_else : (later : Option Bytes) (earlier : Option Bytes) → Option Bytes
or_else none earlier = earlier
or_else (some message) earlier = some message

-- the latest message of sender e
unfoldable pub latest : (e : Bytes) (messages : List Bytes) → Option Bytes
latest e [] = none
latest e (message ∷ messages) = or_else (latest e messages) (cond (same (sender (head_of message)) e) (some message) none)

unfoldable pub series_of_latest : (found : Option Bytes) → List Block
series_of_latest none = []
series_of_latest (some message) = series_of message

-- n as its first block has it; 0 where there is none
unfoldable pub n_of_latest : (found : Option Bytes) → ℕ
n_of_latest none = 0
n_of_latest (some message) = n_of (head_of message)

-- the quantities that sender e last sent in its trade between these parties
unfoldable pub plain_held : (messages : List Bytes) (e : Bytes) (parties : Bytes) → Option Bytes
plain_held messages e parties = map quantities (find (trade_is (some parties)) (series_of_latest (latest e messages)))

-- the other party of a pair
unfoldable pub other_party : (e : Bytes) (parties : Bytes) → Bytes
other_party e parties = cond (same (take 16 parties) e) (drop 16 parties) (take 16 parties)

-- the mark of sender e's trade between these parties, its counterpart standing in a slot; that of an external schedule "stays" the mark of a series alone
unfoldable pub plain_mark : (messages : List Bytes) (e : Bytes) (parties : Option Bytes) (slot : ℕ) → Bytes
plain_mark messages e none slot = 0 ∷ 0 ∷ 0 ∷ 0 ∷ []
plain_mark messages e (some parties) slot =
    mark_of (n_of_latest (latest e messages)) (get_or (plain_held messages e parties) []) (plain_held messages (other_party e parties) parties) slot

-- the nets of sender e
unfoldable pub plain_nets : (ours : Bytes) (messages : List Bytes) (e : Bytes) → Option Bytes
plain_nets ours messages e = map (λ message. nets_of ours e (series_of message)) (latest e messages)

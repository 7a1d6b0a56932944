-- "Accepted (0, A01)": every byte that an acceptance writes. us are the used slots, head is the message's first block, series are its series;
-- ours is the day block's area.
use Rattle.std.specs.Prelude.{Bool, cond, List, [], ◌∷◌, ◌++◌, map, ℕ, suc, ◌+◌, ◌*◌, length, drop}
use Rattle.std.proofs.Math.Option.{Option, none, some}
use Rattle.laws.specs.Tests.{◌and◌, ◌or◌, is}
use Rattle.laws.specs.Lists.{find, has, keep}
use Rattle.laws.specs.Cut.{join}
use Rattle.paper.specs.Layout.{Bytes, Block, n_of, area, sender, senders_slot, key, with_senders_slot, with_mark, with_nets}
use Rattle.paper.specs.Book.{day_block, used, is_series, key_is, trade, is_sender_block_of, slot_of, is_series_of, is_trade_of, own_series}
use Rattle.paper.specs.Message.{head_of, series_of}
use Rattle.paper.specs.Rules.{number_of, is_new, verdict}
use Rattle.paper.specs.Marks.{mark_in}
use Rattle.paper.specs.Nets.{nets_of}

-- the slot of a sender: its own, or for a new one the lowest free
unfoldable pub slot_for : (us : List Block) (e : Bytes) → ℕ
slot_for us e = cond (has (is_sender_block_of e) us) (slot_of us e) (suc (length us))

-- the sender block as it is kept: with its nets. A message holds all of its sender's series (rule 16)
unfoldable pub sender_kept : (ours : Bytes) (head : Block) (series : List Block) → Block
sender_kept ours head series = with_nets (nets_of ours (sender head) series) head

-- what replaces a stored series x: the message's series of its key, told its sender's slot
unfoldable pub replaced : (slot : ℕ) (x : Block) (found : Option Block) → Block
replaced slot x none = x
replaced slot x (some y) = with_senders_slot slot y

-- "the sender block and changed series replace the stored ones": b, if it is the sender's, as the message has it.
-- A series that is not changed is the same in the message, its version too (rule 15)
unfoldable pub renewed : (ours : Bytes) (slot : ℕ) (head : Block) (series : List Block) (b : Block) → Block
renewed ours slot head series b =
    cond (is_sender_block_of (sender head) b) (sender_kept ours head series)
    (cond (is_series_of slot b) (replaced slot b (find (key_is (key b)) series)) b)

-- "new blocks take the lowest free slots, sender first, then new series in message order"
unfoldable pub fresh : (ours : Bytes) (us : List Block) (head : Block) (series : List Block) → List Block
fresh ours us head series =
    cond (has (is_sender_block_of (sender head)) us) [] (sender_kept ours head series ∷ [])
    ++ map (with_senders_slot (slot_for us (sender head))) (keep (is_new (own_series us (sender head))) series)

-- the used slots after it, marks apart
unfoldable pub placed : (ours : Bytes) (us : List Block) (head : Block) (series : List Block) → List Block
placed ours us head series = map (renewed ours (slot_for us (sender head)) head series) us ++ fresh ours us head series

-- "of every series of the sender and of their counterparts": x is one of these among the blocks after it
unfoldable pub touched : (slot : ℕ) (after : List Block) (x : Block) → Bool
touched slot after x = is_series x and (is (senders_slot x) slot or has (is_trade_of slot (trade x)) after)

-- "An acceptance puts right the marks of both sides"
unfoldable pub remarked : (n : ℕ) (slot : ℕ) (after : List Block) (x : Block) → Block
remarked n slot after x = cond (touched slot after x) (with_mark (mark_in n after x) x) x

-- the used slots after it, marks and checks put right
unfoldable pub used_after : (n : ℕ) (ours : Bytes) (us : List Block) (head : Block) (series : List Block) → List Block
used_after n ours us head series = map (remarked n (slot_for us (sender head)) (placed ours us head series)) (placed ours us head series)

-- the book after an acceptance: the rest of it is untouched
unfoldable pub accepted : (book : Bytes) (message : Bytes) → Bytes
accepted book message =
    let after : List Block = used_after (n_of (day_block book)) (area (day_block book)) (used book) (head_of message) (series_of message) in
    day_block book ++ join after ++ drop (512 + 512 * length after) book

-- the book after a submission
unfoldable pub submitted : (book : Bytes) (message : Bytes) → Bytes
submitted book message = cond (is (number_of (verdict book message)) 0) (accepted book message) book

-- C-16: "One call converts old books, writing all marks and nets by the plain rule; 1 if the old layout isn't sound." us are the used slots,
-- ours is the day block's area.
use Rattle.std.specs.Prelude.{Bool, cond, List, ◌++◌, map, ℕ, ◌+◌, ◌*◌, length, drop}
use Rattle.laws.specs.Tests.{◌and◌, is, upto}
use Rattle.laws.specs.Lists.{keep}
use Rattle.laws.specs.Cut.{join}
use Rattle.paper.specs.Layout.{Bytes, Block, n_of, area, sender, with_mark, with_nets}
use Rattle.paper.specs.Book.{day_block, used, is_sender, is_series, own_series}
use Rattle.paper.specs.Sound.{sound_over}
use Rattle.paper.specs.Marks.{mark_in}
use Rattle.paper.specs.Nets.{nets_of}

-- byte 104 in the old layout: "state 1 to 3", whatever n is
unfoldable pub state_allowed : (n : ℕ) (state : ℕ) → Bool
state_allowed n state = upto 1 state and upto state 3

-- the old layout: soundness as it stands in everything else
unfoldable pub old_sound : (book : Bytes) → Bool
old_sound book = sound_over state_allowed book

-- "1 if the old layout isn't sound"
unfoldable pub conversion_number : (book : Bytes) → ℕ
conversion_number book = cond (old_sound book) 0 1

-- a used slot: "all marks and nets by the plain rule", the check put right
unfoldable pub converted_block : (n : ℕ) (ours : Bytes) (us : List Block) (b : Block) → Block
converted_block n ours us b =
    cond (is_sender b) (with_nets (nets_of ours (sender b) (own_series us (sender b))) b)
    (cond (is_series b) (with_mark (mark_in n us b) b) b)

unfoldable pub used_converted : (n : ℕ) (ours : Bytes) (us : List Block) → List Block
used_converted n ours us = map (converted_block n ours us) us

-- the book after the call: the rest of it is untouched
unfoldable pub converted : (book : Bytes) → Bytes
converted book =
    cond (is (conversion_number book) 0)
    (day_block book ++ join (used_converted (n_of (day_block book)) (area (day_block book)) (used book)) ++ drop (512 + 512 * length (used book)) book)
    book

-- ---- "the series then kept standing as its senders' latest messages"

-- the message of the sender whose block is s: that block, then its series by ascending slot
unfoldable pub kept_message : (us : List Block) (s : Block) → Bytes
kept_message us s = s ++ join (own_series us (sender s))

-- one for each sender, by ascending slot
unfoldable pub kept_messages : (us : List Block) → List Bytes
kept_messages us = map (kept_message us) (keep is_sender us)

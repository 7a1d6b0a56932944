-- C-23, "A ceiling on the search": how the counterparts of a message's series are sought, slot by slot. after are the used slots once the new blocks are placed,
-- series are the message's, own is the slot of its sender.
use Rattle.std.specs.Prelude.{cond, List, [], ◌∷◌, ◌++◌, ℕ, zero, suc, ◌+◌, length, drop, get_or, replicate}
use Rattle.std.proofs.Math.Option.{Option}
use Rattle.laws.specs.Tests.{◌and◌, is}
use Rattle.paper.specs.declared.SubmitAnswer.{SubmitAnswer}
use Rattle.paper.specs.Layout.{Bytes, Block, area, sender}
use Rattle.paper.specs.Book.{day_block, used, numbered, trade}
use Rattle.paper.specs.Message.{head_of, series_of}
use Rattle.paper.specs.Rules.{number_of, verdict}
use Rattle.paper.specs.Marks.{is_counterpart}
use Rattle.paper.specs.Acceptance.{slot_for, placed}

-- slots 1 to u
unfoldable pub slots_to : (u : ℕ) → List ℕ
slots_to zero = []
slots_to (suc k) = slots_to k ++ (k + 1) ∷ []

-- "a defined list of visited slots": every used slot, once, in ascending order
unfoldable pub visited : (after : List Block) → List ℕ
visited after = slots_to (length after)

-- what is found for a trade between these parties: a slot found before stays, else it is this one if its block is the counterpart
unfoldable pub found_for : (slot : ℕ) (block : Block) (parties : Option Bytes) (own : ℕ) (before : ℕ) → ℕ
found_for slot block parties own before = cond (is before 0 and is_counterpart own parties block) slot before

-- "Each look is one step, which takes one slot's number and block, the message, the sender's slot and what is found so far": for each series of the message,
-- in its order, the slot of its counterpart, or 0
unfoldable pub look : (slot : ℕ) (block : Block) (series : List Block) (own : ℕ) (so_far : List ℕ) → List ℕ
look slot block [] own so_far = []
look slot block (y ∷ ys) own so_far = found_for slot block (trade y) own (get_or so_far 0 0) ∷ look slot block ys own (drop 1 so_far)

-- these steps over some slots in order: each is lent the block of its slot, "and … nothing else of the book"
unfoldable pub looked_over : (after : List Block) (series : List Block) (own : ℕ) (slots : List ℕ) (so_far : List ℕ) → List ℕ
looked_over after series own [] so_far = so_far
looked_over after series own (slot ∷ slots) so_far = looked_over after series own slots (look slot (numbered after slot) series own so_far)

-- before the first look no series has a counterpart
unfoldable pub none_found : (series : List Block) → List ℕ
none_found series = replicate (length series) 0

-- "the partners are what these steps, over the list in order, have found"
unfoldable pub found : (after : List Block) (series : List Block) (own : ℕ) → List ℕ
found after series own = looked_over after series own (visited after) (none_found series)

-- the partners that the acceptance of a message finds
unfoldable pub partners_found : (book : Bytes) (message : Bytes) → List ℕ
partners_found book message =
    found (placed (area (day_block book)) (used book) (head_of message) (series_of message)) (series_of message) (slot_for (used book) (sender (head_of message)))

-- "shall report how many slots it looked at, the length of a defined list"; "a refusal reports 0"
unfoldable pub looked : (book : Bytes) (message : Bytes) → ℕ
looked book message =
    cond (is (number_of (verdict book message)) 0) (length (visited (placed (area (day_block book)) (used book) (head_of message) (series_of message)))) 0

-- the answer to a submission: the verdict as it was, and beside it the number of looks, which "stands outside the isolation clause"
unfoldable pub submit_answer : (book : Bytes) (message : Bytes) → SubmitAnswer
submit_answer book message = record { verdict = verdict book message; looked = looked book message }

-- "Submission", rule 2, and the walk over a message's series.
use Rattle.std.specs.Prelude.{Bool, cond, List, [], ℕ, length, take, drop}
use Rattle.laws.specs.Tests.{◌and◌, neg, is}
use Rattle.laws.specs.Lists.{every}
use Rattle.paper.specs.Check.{check_right}
use Rattle.paper.specs.Layout.{Bytes, Block, blocks, n_of, series_count, sender_zeros_in_message, series_zeros_in_message}
use Rattle.paper.specs.Ranges.{whole_blocks}
use Rattle.paper.specs.Book.{is_sender, is_series, numbered}

-- a message is its first block, the sender's, and its series
unfoldable pub head_of : (message : Bytes) → Block
head_of message = take 512 message

unfoldable pub series_of : (message : Bytes) → List Block
series_of message = blocks (drop 512 message)

-- kind 1; the count right; the bytes that must be 0
unfoldable pub head_right : (head : Block) (count : ℕ) → Bool
head_right head count = is_sender head and is (series_count head) count and sender_zeros_in_message head

-- kind 2; the bytes that must be 0; the first block's n
unfoldable pub series_right : (head : Block) (y : Block) → Bool
series_right head y = is_series y and series_zeros_in_message y and is (n_of y) (n_of head)

unfoldable pub message_right : (message : Bytes) → Bool
message_right message =
    whole_blocks 2 201 message
    and every check_right (blocks message)
    and head_right (head_of message) (length (series_of message))
    and every (series_right (head_of message)) (series_of message)

-- "message not 2 to 201 whole blocks; a check wrong; kinds not 1 then 2s; count wrong; a byte that must be 0 … is not; a series' n differs"
unfoldable pub rule2 : (message : Bytes) → Bool
rule2 message = neg (message_right message)

-- series number k of a message: "past the last one, or on a message that breaks rule 2, … an empty part"
unfoldable pub series_numbered : (message : Bytes) (number : ℕ) → Block
series_numbered message number = cond (rule2 message) [] (numbered (series_of message) number)

-- What a row of the check on site asks of the definitions, and whether the answer is the one that the row expects.
use Rattle.std.specs.Prelude.{◌++◌, ◌+◌}
use Rattle.std.specs.Option.{is_some, unwrap_or}
use Rattle.laws.specs.Base.{Bool, true, cond, ℕ, zero, suc, length, replicate}
use Rattle.laws.specs.Tests.{◌and◌, ◌or◌, is, less}
use Rattle.laws.specs.Lists.{same}
use Rattle.laws.specs.Bytes.{part, written}
use Rattle.paper.specs.Check.{check_of}
use Rattle.paper.specs.Layout.{Bytes, version}
use Rattle.paper.specs.Eic.{eic_number}
use Rattle.paper.specs.QuantityText.{quantity_read}
use Rattle.paper.specs.Opening.{Opening, naming_none, open_number, opened}
use Rattle.paper.specs.Clock.{clock_answer, clock_moved}
use Rattle.paper.specs.Finals.{final}
use Rattle.paper.specs.Readings.{accepted_block}
use Rattle.paper.specs.Rules.{verdict}
use Rattle.paper.specs.Acceptance.{submitted}
use Rattle.paper.specs.Conversion.{conversion_number, converted}
use Rattle.paper.specs.Rights.{enter_number, entered}
use Rattle.paper.specs.Listing.{text, listing}
use Rattle.desk_text.specs.Put.{within}
use Rattle.desk_text.specs.Numbers.{number_read, minute_of, minute_read}
use Rattle.desk_text.specs.Words.{first_piece, past_piece, piece_numbered}
use Rattle.desk_text.specs.Arguments.{command_number, word_value}
use Rattle.listing_text.specs.Text.{text_length, text_into}
use Rattle.message_text.specs.MessageText.{message_text, right_text}
use Rattle.message_text.specs.declared.TextRead.{TextRead}
use Rattle.cases.specs.Examples.{area, receiver, seller, buyer, day, id}
use Rattle.site_leaves.specs.Leaves.{number_in, block_with}

-- ---- what a row's arguments say

-- one that names no rule
unfoldable pub opening : (lead : Bytes) → Opening
opening lead = naming_none 96 (word_value (number_in lead)) day area receiver

-- the day's start where it says none
unfoldable pub minute_in : (minute : Bytes) → ℕ
minute_in minute = (unwrap_or (minute_read minute) (minute_of 10080)).0

-- what is laid at the front of a buffer
unfoldable pub laid_first : TextRead × Bytes → Bytes
laid_first p = part 0 p.0.length p.1

-- the message that a text says, of two series at most
unfoldable pub message_of : (said : Bytes) → Bytes
message_of said = laid_first (message_text said (replicate 1536 0))

-- the right that a text says
unfoldable pub right_of : (said : Bytes) → Bytes
right_of said = laid_first (right_text said (replicate 512 0))

-- the seller's message under a head: its first series at 45,000 kW throughout and of version 1, then what else there is
unfoldable pub sellers_lines : Bytes
sellers_lines = text "\nsender 14XBILANZGR-1--F\nreceiver 14XAT-APCS-----Q\nday 20190131\nn 96\nseries TS0001\nversion 1\narea 10YAT-APG------L\nin 14XBG-EMPFANG--0\nout 14XBILANZGR-1--F\n1-96 45\n"

-- as much of a text as 512 bytes hold
unfoldable pub held : Bytes → Bytes
held p = part 0 (within (length p) 512) (written 0 p (replicate 512 0))

unfoldable pub sellers_text : (head more : Bytes) → Bytes
sellers_text head more = held ((head ++ sellers_lines) ++ more)

-- ---- what is called: the number that comes, and the book after it; commands have their numbers in the desk

unfoldable pub came : (book : Bytes) (command : ℕ) (argument more : Bytes) → ℕ
came book command argument more =
    cond (is command 1) (open_number book (opening argument))
    (cond (is command 2) (clock_answer book (minute_in argument)).number
    (cond (is command 3) (verdict book (message_of (sellers_text argument more))).number
    (cond (is command 5) (version (accepted_block book seller (id "TS0001")))
    (cond (is command 6) (final book seller buyer (number_in argument)).number
    (cond (is command 9) (verdict book (message_of argument)).number
    (cond (is command 10) (eic_number argument)
    (cond (is command 11) (quantity_read argument).number
    (cond (is command 13) (conversion_number book)
    (cond (is command 14) (enter_number book (right_of argument))
    (check_of (block_with argument more)))))))))))

unfoldable pub book_after : (book : Bytes) (command : ℕ) (argument more : Bytes) → Bytes
book_after book command argument more =
    cond (is command 1) (opened book (opening argument))
    (cond (is command 2) (clock_moved book (minute_in argument))
    (cond (is command 3) (submitted book (message_of (sellers_text argument more)))
    (cond (is command 9) (submitted book (message_of argument))
    (cond (is command 13) (converted book)
    (cond (is command 14) (entered book (right_of argument)) book)))))

-- ---- a row: word, two arguments, the number expected, what is told

abbrev pub cell : (k : ℕ) (row : Bytes) → Bytes
cell k row = piece_numbered 124 k row

abbrev pub command_of : (row : Bytes) → ℕ
command_of row = command_number (cell 0 row)

-- a row that says no call, or no number, is wrong whatever comes
unfoldable pub stated : (word : Bytes) (command : ℕ) (read : Bool) → Bool
stated word command read = read and (less 0 command or same word (text "check"))

unfoldable pub row_right : (book row : Bytes) → Bool
row_right book row =
    is (number_in (cell 3 row)) (came book (command_of row) (cell 1 row) (cell 2 row)) and stated (cell 0 row) (command_of row) (is_some (number_read (cell 3 row)))

unfoldable pub row_book : (book row : Bytes) → Bytes
row_book book row = book_after book (command_of row) (cell 1 row) (cell 2 row)

-- ---- a table, up to its first empty row: whether each row came as expected, and the book after them

unfoldable pub rows_from : (left : ℕ) (right : Bool) (book rest : Bytes) → Bool × Bytes
rows_from zero right book rest = (right, book)
rows_from (suc left) right book rest =
    cond (is (length (first_piece 59 rest)) 0) (right, book)
    (rows_from left (row_right book (first_piece 59 rest) and right) (row_book book (first_piece 59 rest)) (past_piece 59 rest))

unfoldable pub table_run : (book table : Bytes) → Bool × Bytes
table_run book table = rows_from (length table) true book table

-- ---- the listing, which stands behind a table that files what is listed

-- as much of it as a buffer of 5,591 bytes shows
unfoldable pub shown : (book : Bytes) → Bytes
shown book = part 0 (text_length (listing book) 5591) (text_into (listing book) (replicate 5591 0))

unfoldable pub right_with_page : (page : Bytes) → Bool × Bytes → Bool
right_with_page page run = run.0 and same page (shown run.1)

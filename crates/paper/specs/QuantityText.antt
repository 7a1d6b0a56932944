-- "Quantity text": 1 to 4 digits, then optionally a point and 1 to 3 digits, in MW.
use Rattle.std.specs.Prelude.{cond, [], ◌∷◌, ◌++◌, ℕ, zero, suc, ◌+◌, ◌-◌, ◌*◌, ◌/◌, ◌%◌, length, take, drop, get_or}
use Rattle.laws.specs.Tests.{◌and◌, neg, is, less, upto}
use Rattle.laws.specs.Lists.{until}
use Rattle.paper.specs.declared.QuantityRead.{QuantityRead}
use Rattle.paper.specs.declared.QuantityPrinted.{QuantityPrinted}
use Rattle.paper.specs.Layout.{Bytes}
use Rattle.paper.specs.Ids.{digit}

-- ---- reading

-- how many digits a text starts with
unfoldable pub leading_digits : (text : Bytes) → ℕ
leading_digits text = length (until (λ byte. neg (digit byte)) text)

-- the number that digits say, those before them having said one already
unfoldable pub decimal_from : (said : ℕ) (digits : Bytes) → ℕ
decimal_from said [] = said
decimal_from said (byte ∷ digits) = decimal_from (10 * said + (byte - 48)) digits

abbrev pub read_refused : (number : ℕ) → QuantityRead
read_refused number = record { number = number; kilowatts = 0 }

abbrev pub read_as : (kilowatts : ℕ) → QuantityRead
read_as kilowatts = record { number = 0; kilowatts = kilowatts }

-- what the last of 1 to 3 digits after the point is worth, in kilowatts
unfoldable pub worth : (digits : ℕ) → ℕ
worth digits = cond (is digits 1) 100 (cond (is digits 2) 10 1)

-- "a point and 1 to 3 digits": past the point nothing else
unfoldable pub past_point : (megawatts : ℕ) (text : Bytes) → QuantityRead
past_point megawatts text =
    cond (upto 1 (leading_digits text) and upto (leading_digits text) 3 and is (leading_digits text) (length text))
    (read_as (1000 * megawatts + decimal_from 0 text * worth (leading_digits text)))
    (read_refused 30)

-- past the whole megawatts: nothing, or a point
unfoldable pub past_whole : (megawatts : ℕ) (text : Bytes) → QuantityRead
past_whole megawatts text =
    cond (is (length text) 0) (read_as (1000 * megawatts)) (cond (is (get_or text 0 0) 46) (past_point megawatts (drop 1 text)) (read_refused 30))

-- "1 to 4 digits, then optionally a point and 1 to 3 digits"
unfoldable pub unsigned_read : (text : Bytes) → QuantityRead
unsigned_read text =
    cond (upto 1 (leading_digits text) and upto (leading_digits text) 4)
    (past_whole (decimal_from 0 (take (leading_digits text) text)) (drop (leading_digits text) text))
    (read_refused 30)

-- "a minus before such text is 31"
unfoldable pub past_minus : (read : QuantityRead) → QuantityRead
past_minus read = cond (is read.number 0) (read_refused 31) (read_refused 30)

unfoldable pub quantity_read : (text : Bytes) → QuantityRead
quantity_read text = cond (is (get_or text 0 0) 45) (past_minus (unsigned_read (drop 1 text))) (unsigned_read text)

-- ---- printing

-- the last so many digits of a number
unfoldable pub last_digits : (many : ℕ) (number : ℕ) → Bytes
last_digits zero number = []
last_digits (suc many) number = last_digits many (number / 10) ++ ((48 + number % 10) ∷ [])

-- how many digits a number below 10,000 has, with no needless leading zero
unfoldable pub width_of : (number : ℕ) → ℕ
width_of number = cond (less number 10) 1 (cond (less number 100) 2 (cond (less number 1000) 3 4))

unfoldable pub decimal : (number : ℕ) → Bytes
decimal number = last_digits (width_of number) number

-- "no needless leading zero, point, three digits"
unfoldable pub quantity_text : (kilowatts : ℕ) → Bytes
quantity_text kilowatts = decimal (kilowatts / 1000) ++ 46 ∷ last_digits 3 (kilowatts % 1000)

-- "30 above 9,999,999, then 32 if the buffer is short", which has room for so many bytes
unfoldable pub quantity_printed : (kilowatts : ℕ) (room : ℕ) → QuantityPrinted
quantity_printed kilowatts room =
    cond (less 9999999 kilowatts) (record { number = 30; length = 0 })
    (cond (less room (length (quantity_text kilowatts))) (record { number = 32; length = 0 })
    (record { number = 0; length = length (quantity_text kilowatts) }))

-- the buffer after it: "Bytes after the text stay"
unfoldable pub printed_into : (kilowatts : ℕ) (buffer : Bytes) → Bytes
printed_into kilowatts buffer =
    cond (is (quantity_printed kilowatts (length buffer)).number 0)
    (quantity_text kilowatts ++ drop (length (quantity_text kilowatts)) buffer)
    buffer

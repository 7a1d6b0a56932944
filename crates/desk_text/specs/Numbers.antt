-- Numbers as decimal text, written and read.
use Rattle.std.specs.Prelude.{Option, None, Some, cond, ◌∷◌, ℕ, ◌+◌, ◌-◌, length, drop, get_or}
use Rattle.std.specs.Option.{option_map}
use Rattle.laws.specs.Tests.{◌and◌, is, less, upto}
use Rattle.laws.specs.Lists.{every}
use Rattle.paper.specs.Layout.{Bytes}
use Rattle.paper.specs.Ids.{digit}
use Rattle.paper.specs.QuantityText.{last_digits, decimal_from}
use Rattle.quantity.specs.Digits.{places_by}
use Rattle.paper.specs.declared.Minute.{Minute}

-- ---- written

-- with no needless zero in front; no number of eight bytes has more than 20 digits
unfoldable pub number_text : ℕ → Bytes
number_text x = last_digits (places_by 19 x) x

-- a less b, with a minus where that is below 0
unfoldable pub difference_text : (a b : ℕ) → Bytes
difference_text a b = cond (less a b) (45 ∷ number_text (b - a)) (number_text (a - b))

-- a minute as the day block keeps it, told from the day's start: a minus before the day
unfoldable pub minute_text : ℕ → Bytes
minute_text m = difference_text m 10080

-- ---- read

-- one to five digits and nothing else
unfoldable pub number_read : Bytes → Option ℕ
number_read s = cond (upto 1 (length s) and upto (length s) 5 and every digit s) (Some (decimal_from 0 s)) None

abbrev pub minute_of : ℕ → Minute
minute_of minute = record { 0 = minute }

-- a minute that no clock keeps stands for every minute out of range, so that the clock's call refuses it
unfoldable pub minute_after : ℕ → Minute
minute_after x = minute_of (cond (less 1500 x) 65535 (10080 + x))

unfoldable pub minute_before : ℕ → Minute
minute_before x = minute_of (cond (less 10080 x) 65535 (10080 - x))

-- minutes from the day's start, a minus before those that lie before it
unfoldable pub minute_read : Bytes → Option Minute
minute_read s = cond (is (get_or s 0 0) 45) (option_map minute_before (number_read (drop 1 s))) (option_map minute_after (number_read s))

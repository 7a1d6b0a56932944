-- "Blocks": ids, and the day's digits.
use Rattle.std.specs.Prelude.{Bool, ℕ, length, drop}
use Rattle.laws.specs.Tests.{◌and◌, ◌or◌, is, upto}
use Rattle.laws.specs.Lists.{every, until}
use Rattle.paper.specs.Layout.{Bytes, zeros}

-- 0–9
unfoldable pub digit : ℕ → Bool
digit byte = upto 48 byte and upto byte 57

-- A–Z
unfoldable pub letter : ℕ → Bool
letter byte = upto 65 byte and upto byte 90

unfoldable pub hyphen : ℕ → Bool
hyphen byte = is byte 45

-- "A–Z, 0–9 and hyphen"
unfoldable pub id_character : ℕ → Bool
id_character byte = letter byte or digit byte or hyphen byte

-- an id without its zero bytes
unfoldable pub id_text : (field : Bytes) → Bytes
id_text field = until (λ byte. is byte 0) field

-- "An id is 1 to 16 of A–Z, 0–9 and hyphen, then zero bytes", in a field of sixteen
unfoldable pub id_well_formed : (field : Bytes) → Bool
id_well_formed field =
    is (length field) 16 and upto 1 (length (id_text field)) and every id_character (id_text field) and zeros (drop (length (id_text field)) field)

-- "Day: eight digits"
unfoldable pub day_well_formed : (field : Bytes) → Bool
day_well_formed field = is (length field) 8 and every digit field

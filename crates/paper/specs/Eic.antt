-- "EIC": the check of a party or area code, which says what character is wrong (C-11).
use Rattle.std.specs.Prelude.{Bool, cond, [], ◌∷◌, ℕ, ◌+◌, ◌-◌, ◌*◌, ◌%◌, length, take, get_or}
use Rattle.laws.specs.Tests.{◌and◌, ◌or◌, neg, is, less}
use Rattle.laws.specs.Lists.{until}
use Rattle.paper.specs.Layout.{Bytes}
use Rattle.paper.specs.Ids.{digit, letter, hyphen}

-- "0–9 as digits, A–Z as 10–35, hyphen 36, nothing else": its value or the mark 255
unfoldable pub character_value : (byte : ℕ) → ℕ
character_value byte = cond (digit byte) (byte - 48) (cond (letter byte) (byte - 55) (cond (hyphen byte) 36 255))

unfoldable pub eic_character : (byte : ℕ) → Bool
eic_character byte = neg (is (character_value byte) 255)

-- the sum of the values at a weight, at one less and on
unfoldable pub weighted : (weight : ℕ) (code : Bytes) → ℕ
weighted weight [] = 0
weighted weight (byte ∷ code) = weight * character_value byte + weighted (weight - 1) code

-- "Weights 16 down to 2 over the first fifteen; s is the sum"
unfoldable pub eic_sum : (code : Bytes) → ℕ
eic_sum code = weighted 16 (take 15 code)

-- how many of the first fifteen characters stand before the first that is not allowed or is missing; 15 where all are allowed
unfoldable pub allowed_in_front : (code : Bytes) → ℕ
allowed_in_front code = length (until (λ byte. neg (eic_character byte)) (take 15 code))

-- "the sixteenth character has value 36 − ((s − 1) mod 37), and is not a hyphen"; it is there, and is the last
unfoldable pub sixteenth_right : (code : Bytes) → Bool
sixteenth_right code =
    is (length code) 16 and neg (hyphen (get_or code 15 0)) and is (character_value (get_or code 15 0)) (36 - (eic_sum code - 1) % 37)

-- "0 when good, 1 to 15 for the first character that is not allowed, 16 when only the sixteenth is wrong or the first fifteen are all 0", of which s = 0.
-- A missing character is one not allowed
unfoldable pub eic_number : (code : Bytes) → ℕ
eic_number code =
    cond (less (allowed_in_front code) 15) (allowed_in_front code + 1)
    (cond (is (eic_sum code) 0 or neg (sixteenth_right code)) 16 0)

-- the number of the code that is judged first; if it is good, of the second
unfoldable pub eic_number_of_two : (first : Bytes) (second : Bytes) → ℕ
eic_number_of_two first second = cond (is (eic_number first) 0) (eic_number second) (eic_number first)

unfoldable pub eic_valid : (code : Bytes) → Bool
eic_valid code = is (eic_number code) 0

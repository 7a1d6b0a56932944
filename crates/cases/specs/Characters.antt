-- Document 01's table of the characters of an EIC: at each of the 256 byte values what the byte is worth, 255 where it is no character.
use Rattle.std.specs.Prelude.{◌≡◌, ◌∷◌, ◌++◌}
use Rattle.laws.specs.Base.{true, refl, List, [], ℕ, length, replicate}
use Rattle.laws.specs.Table.{tabulates}
use Rattle.paper.specs.Eic.{character_value}
use Rattle.cases.specs.Opened.{paper}

abbrev pub digits : List ℕ
digits = 0 ∷ 1 ∷ 2 ∷ 3 ∷ 4 ∷ 5 ∷ 6 ∷ 7 ∷ 8 ∷ 9 ∷ []

abbrev pub letters : List ℕ
letters =
    10 ∷ 11 ∷ 12 ∷ 13 ∷ 14 ∷ 15 ∷ 16 ∷ 17 ∷ 18 ∷ 19 ∷ 20 ∷ 21 ∷ 22 ∷ 23 ∷ 24 ∷ 25 ∷ 26 ∷ 27 ∷ 28 ∷ 29 ∷ 30 ∷ 31 ∷ 32 ∷ 33 ∷ 34 ∷ 35 ∷ []

-- hyphen is byte 45, 0 is byte 48, A is byte 65
unfoldable pub table : List ℕ
table = replicate 45 255 ++ 36 ∷ 255 ∷ 255 ∷ digits ++ replicate 7 255 ++ letters ++ replicate 165 255

pub all_bytes : length table ≡ 256
unfolding table
all_bytes = refl

-- each entry, from byte 0 on, is the byte's value
pub values : tabulates character_value 0 table ≡ true
unfolding paper table tabulates
values = refl

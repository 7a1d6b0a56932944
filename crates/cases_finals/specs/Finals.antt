-- C-17, the lesser value by default: what the two opening calls write, which bytes 6 and 7 a sound book may have, and the final value by both rules: of both sides, of one, of
-- neither, and with a counterpart that comes late, 0 where positions are closed.
use Rattle.std.specs.Prelude.{◌≡◌, ◌∷◌, ◌++◌}
use Rattle.laws.specs.Base.{refl, cond, List, [], ℕ, length, take, drop, replicate}
use Rattle.laws.specs.Tests.{upto}
use Rattle.laws.specs.Bytes.{part}
use Rattle.paper.specs.declared.Rule.{Rule}
use Rattle.paper.specs.Layout.{Bytes, sellers_rule, lesser_rule}
use Rattle.paper.specs.Book.{used}
use Rattle.paper.specs.Sound.{sound}
use Rattle.paper.specs.Opening.{Opening, naming_none, open_number, open_answer, opened}
use Rattle.cases.specs.Case.{Case, ◌gives◌, wrong, once, flag, final_value, yes, no, kilowatts, refused}
use Rattle.cases.specs.Opened.{paper}
use Rattle.cases.specs.Examples.{area, receiver, seller, buyer, nobody, day, head, steady, but_at, sale, purchase, over, parameters_by, book_of, late, after, examples}

-- ---- opening: the number, then bytes 6 and 7 of a buffer of some length

abbrev pub opened_by : (room : ℕ) (o : Opening) → List ℕ
opened_by room o = once (λ buffer. open_number buffer o ∷ part 6 2 (opened buffer o)) (replicate room 7)

-- a byte that names no rule
abbrev pub byte : ℕ → Rule
byte b = record { 0 = b }

-- the character that an opening by no rule names, by its area
abbrev pub wrong_character : Bytes → List ℕ
wrong_character area = (open_answer (replicate 1024 7) (record { n = 96; lead = 45; rule = byte 2; day = day; area = area; receiver = receiver })).character ∷ []

unfoldable pub of_opening : List Case
of_opening =
    opened_by 1024 (naming_none 96 45 day area receiver) gives (0 ∷ 1 ∷ 0 ∷ [])
    ∷ opened_by 1024 (parameters_by lesser_rule 45) gives (0 ∷ 1 ∷ 0 ∷ [])
    ∷ opened_by 1024 (parameters_by sellers_rule 45) gives (0 ∷ 0 ∷ 0 ∷ [])
    ∷ opened_by 1024 (parameters_by (byte 2) 45) gives (21 ∷ 7 ∷ 7 ∷ [])
    ∷ opened_by 1024 (parameters_by (byte 255) 45) gives (21 ∷ 7 ∷ 7 ∷ [])
    -- the length is judged first
    ∷ opened_by 1023 (parameters_by (byte 2) 45) gives (20 ∷ 7 ∷ 7 ∷ [])
    -- the character is that of a wrong code, whatever the rule
    ∷ wrong_character area gives (0 ∷ [])
    ∷ wrong_character nobody gives (16 ∷ [])
    ∷ []

pub openings : wrong of_opening ≡ []
unfolding paper examples of_opening
openings = refl

-- ---- a sound book: a byte of the day block made another

unfoldable pub day_with : (offset b : ℕ) (book : Bytes) → Bytes
day_with offset b book = over offset (b ∷ []) (take 512 book) ++ drop 512 book

abbrev pub sound_with : (offset b : ℕ) (book : Bytes) → List ℕ
sound_with offset b book = flag (sound (day_with offset b book)) ∷ []

unfoldable pub of_soundness : Bytes → List Case
of_soundness book = sound_with 6 0 book gives yes ∷ sound_with 6 1 book gives yes ∷ sound_with 6 2 book gives no ∷ sound_with 7 1 book gives no ∷ []

pub soundness : wrong (once of_soundness (book_of 1)) ≡ []
unfolding paper examples day_with of_soundness
soundness = refl

-- ---- finals at positions 2 and 3, closed when they are asked for. The book is opened with no rule named; with byte 6 made 0 it is one that was on file

-- how many slots are used, then number and kilowatts at each position
unfoldable pub finals : Bytes → List ℕ
finals book = length (used book) ∷ final_value book seller buyer 2 ++ final_value book seller buyer 3

unfoldable pub of_finals : (slots : ℕ) (by_sellers by_lesser : List ℕ) (book : Bytes) → List Case
of_finals slots by_sellers by_lesser book = once finals (day_with 6 0 book) gives (slots ∷ by_sellers) ∷ finals book gives (slots ∷ by_lesser) ∷ []

-- the seller has 45,000 throughout; the buyer less at position 2, more at position 3
unfoldable pub sellers_message : Bytes
sellers_message = head seller 1 1 ++ sale 1 (steady 45000)

unfoldable pub buyers_message : Bytes
buyers_message = head buyer 1 1 ++ purchase 1 (but_at 2 44000 (steady 46000))

-- the messages of who comes late: 0 at positions 1 to 4
unfoldable pub from_fifth : ℕ → ℕ
from_fifth p = cond (upto p 4) 0 (steady 45000 p)

unfoldable pub sellers_late : Bytes
sellers_late = head seller 1 1 ++ sale 1 from_fifth

unfoldable pub buyers_late : Bytes
buyers_late = head buyer 1 1 ++ purchase 1 from_fifth

-- one side alone, in two slots, and again with the counterpart that has come late, in four
unfoldable pub of_lone_side : (counterpart : Bytes) (by_sellers by_lesser : List ℕ) (book : Bytes) → List Case
of_lone_side counterpart by_sellers by_lesser book = of_finals 2 by_sellers by_lesser book ++ once (of_finals 4 by_sellers by_lesser) (after book counterpart)

-- the seller has filed, and then the buyer in time, or nobody
unfoldable pub of_seller : Bytes → List Case
of_seller book =
    once (of_finals 4 (kilowatts 45000 ++ kilowatts 45000) (kilowatts 44000 ++ kilowatts 45000)) (late (after book buyers_message))
    ++ once (of_lone_side buyers_late (kilowatts 45000 ++ kilowatts 45000) (kilowatts 0 ++ kilowatts 0)) (late book)

-- neither has filed, then the seller, or the buyer alone
unfoldable pub of_opened : Bytes → List Case
of_opened book =
    once (of_finals 0 (refused 26 ++ refused 26) (refused 26 ++ refused 26)) (late book)
    ++ once of_seller (after book sellers_message)
    ++ once (of_lone_side sellers_late (kilowatts 0 ++ kilowatts 0) (kilowatts 0 ++ kilowatts 0)) (late (after book buyers_message))

pub by_both_rules : wrong (once of_opened (opened (replicate 2560 7) (naming_none 96 45 day area receiver))) ≡ []
unfolding paper examples day_with finals of_finals sellers_message buyers_message from_fifth sellers_late buyers_late of_lone_side of_seller of_opened
by_both_rules = refl

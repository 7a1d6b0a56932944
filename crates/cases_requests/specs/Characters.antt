-- C-11, which character is wrong: the EIC check's number at both sides of each edge, and as opening and submission pass it on.
use Rattle.std.specs.Prelude.{◌≡◌, ◌∷◌, ◌++◌}
use Rattle.laws.specs.Base.{refl, List, [], ℕ, take, replicate}
use Rattle.paper.specs.declared.OpenAnswer.{OpenAnswer}
use Rattle.paper.specs.Layout.{Bytes}
use Rattle.paper.specs.Opening.{naming_none, open_answer}
use Rattle.paper.specs.Listing.{text}
use Rattle.cases.specs.Case.{Case, ◌gives◌, wrong, once, character, submission, good, wrong_at, broken, broken_by}
use Rattle.cases.specs.Opened.{paper}
use Rattle.cases.specs.Examples.{area, receiver, seller, buyer, stranger, nobody, day, id, head, steady, series, purchase, with_receiver, book_of, examples}

-- ---- the EIC check

unfoldable pub of_characters : List Case
of_characters =
    character (text "10XAT-APG------Z") gives good
    ∷ character (text "_0XAT-APG------Z") gives wrong_at 1
    ∷ character (text "1_XAT-APG-----_Z") gives wrong_at 2
    ∷ character (text "10xAT-APG------Z") gives wrong_at 3
    ∷ character (text "10XAT-APG-----_Z") gives wrong_at 15
    -- the sixteenth: another, none, small, a hyphen that would be right; it is not looked at where an earlier one is wrong
    ∷ character (text "10XAT-APG------Y") gives wrong_at 16
    ∷ character (text "10XAT-APG------_") gives wrong_at 16
    ∷ character (text "10XAT-APG------z") gives wrong_at 16
    ∷ character (text "14XBILANZGR-5---") gives wrong_at 16
    ∷ character (text "10XAT-APG-----_Y") gives wrong_at 15
    -- fifteen zeros, whatever follows; fourteen and a 1
    ∷ character (text "0000000000000000") gives wrong_at 16
    ∷ character (text "000000000000000Z") gives wrong_at 16
    ∷ character (text "00000000000000_0") gives wrong_at 15
    ∷ character (text "000000000000001Z") gives good
    -- too short, by bytes and by zero bytes
    ∷ character [] gives wrong_at 1
    ∷ character (text "10XAT-A") gives wrong_at 8
    ∷ character (text "1_XAT-A") gives wrong_at 2
    ∷ character (id "10XAT-A") gives wrong_at 8
    ∷ character (text "10XAT-APG-----") gives wrong_at 15
    ∷ character (text "10XAT-APG------") gives wrong_at 16
    -- too long
    ∷ character (text "10XAT-APG------ZZ") gives wrong_at 16
    ∷ character (text "10XAT-APG-----_ZZ") gives wrong_at 15
    ∷ []

pub characters : wrong of_characters ≡ []
unfolding paper examples of_characters
characters = refl

-- its third character is wrong; of nobody's code it is the sixteenth
unfoldable pub third : Bytes
third = text "10xAT-APG------Z"

-- ---- opening: number and character

abbrev pub told_by_opening : OpenAnswer → List ℕ
told_by_opening a = a.number ∷ a.character ∷ []

abbrev pub opening : (length n : ℕ) (area receiver : Bytes) → List ℕ
opening length n area receiver = told_by_opening (open_answer (replicate length 7) (naming_none n 45 day area receiver))

unfoldable pub of_opening : List Case
of_opening =
    opening 1024 96 area receiver gives (0 ∷ 0 ∷ [])
    ∷ opening 1024 96 third receiver gives (21 ∷ 3 ∷ [])
    ∷ opening 1024 96 area third gives (21 ∷ 3 ∷ [])
    -- the area is judged first
    ∷ opening 1024 96 nobody third gives (21 ∷ 16 ∷ [])
    ∷ opening 1024 96 third nobody gives (21 ∷ 3 ∷ [])
    -- whatever else is wrong; nothing but n
    ∷ opening 1024 95 area third gives (21 ∷ 3 ∷ [])
    ∷ opening 1024 95 area receiver gives (21 ∷ 0 ∷ [])
    -- another length
    ∷ opening 1024 96 (take 15 area) receiver gives (21 ∷ 16 ∷ [])
    ∷ opening 1024 96 area (take 7 receiver) gives (21 ∷ 8 ∷ [])
    ∷ opening 1024 96 (area ++ area) receiver gives (21 ∷ 16 ∷ [])
    -- 20 has none
    ∷ opening 1023 96 third nobody gives (20 ∷ 0 ∷ [])
    ∷ []

pub openings : wrong of_opening ≡ []
unfolding paper examples third of_opening
openings = refl

-- ---- submission, into a book of three slots by a new sender

-- the buyer's message with one series
abbrev pub filed : (book in_party out_party : Bytes) → List ℕ
filed book in_party out_party = submission book (head buyer 1 1 ++ series "FPL01" 1 in_party out_party (steady 0))

unfoldable pub of_submission : Bytes → List Case
of_submission book =
    submission book (head third 1 1 ++ purchase 1 (steady 0)) gives broken_by 4 0 78 3
    ∷ submission book (head nobody 1 1 ++ purchase 1 (steady 0)) gives broken_by 4 0 78 16
    ∷ submission book (with_receiver area (head third 1 1) ++ purchase 1 (steady 0)) gives broken 3 0 0 53
    ∷ filed book third buyer gives broken_by 8 1 22 3
    ∷ filed book buyer third gives broken_by 8 1 22 3
    -- the in party is judged first
    ∷ filed book third nobody gives broken_by 8 1 22 3
    ∷ filed book nobody third gives broken_by 8 1 22 16
    ∷ filed book nobody nobody gives broken_by 8 1 22 16
    -- equal parties, neither the sender: both codes good, and one not
    ∷ filed book buyer buyer gives broken_by 8 1 22 0
    ∷ filed book stranger seller gives broken_by 8 1 22 0
    ∷ filed book stranger third gives broken_by 8 1 22 3
    ∷ submission book (head buyer 1 2 ++ purchase 1 (steady 0) ++ series "FPL02" 1 buyer third (steady 0)) gives broken_by 8 2 22 3
    ∷ []

pub submissions : wrong (once of_submission (book_of 3)) ≡ []
unfolding paper examples third of_submission
submissions = refl

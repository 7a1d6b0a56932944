-- C-23, a ceiling on the search: what one look finds, what the looks of a submission have found, and the number that it reports.
use Rattle.std.specs.Prelude.{◌≡◌, ◌∷◌, ◌++◌}
use Rattle.laws.specs.Base.{refl, List, [], ℕ}
use Rattle.paper.specs.Layout.{Bytes, with_senders_slot}
use Rattle.paper.specs.Looks.{look, partners_found, submit_answer}
use Rattle.cases.specs.Case.{Case, ◌gives◌, wrong, once}
use Rattle.cases.specs.Opened.{paper}
use Rattle.cases.specs.Examples.{seller, buyer, stranger, head, steady, series, sale, purchase, buyback, book_of, sold, examples}

-- ---- one look at slot 5, for the series of a sender in slot 3

-- which files a purchase and its buyback
abbrev pub found : (owner : ℕ) (before : List ℕ) → List ℕ
found owner before = look 5 (with_senders_slot owner (sale 1 (steady 45000))) (purchase 1 (steady 45000) ∷ buyback 1 (steady 0) ∷ []) 3 before

unfoldable pub of_looks : List Case
of_looks =
    -- another sender's series, for the series with its pair alone
    found 1 (0 ∷ 0 ∷ []) gives (5 ∷ 0 ∷ [])
    ∷ found 1 (0 ∷ 2 ∷ []) gives (5 ∷ 2 ∷ [])
    -- the slot found first stays
    ∷ found 1 (4 ∷ 0 ∷ []) gives (4 ∷ 0 ∷ [])
    -- the sender's own
    ∷ found 3 (0 ∷ 0 ∷ []) gives (0 ∷ 0 ∷ [])
    -- a sender block; another pair
    ∷ look 5 (head seller 1 1) (purchase 1 (steady 45000) ∷ []) 3 (0 ∷ []) gives (0 ∷ [])
    ∷ look 5 (with_senders_slot 1 (buyback 1 (steady 0))) (purchase 1 (steady 45000) ∷ []) 3 (0 ∷ []) gives (0 ∷ [])
    -- two series with one pair, which rule 7 refuses: each
    ∷ look 5 (with_senders_slot 1 (sale 1 (steady 0))) (purchase 1 (steady 0) ∷ purchase 1 (steady 0) ∷ []) 3 (0 ∷ 0 ∷ []) gives (5 ∷ 5 ∷ [])
    ∷ []

pub looks : wrong of_looks ≡ []
unfolding paper examples of_looks
looks = refl

-- ---- a submission: its number and the looks it reports, then what they have found

abbrev pub answer : (book message : Bytes) → List ℕ
answer book message = (submit_answer book message).verdict.number ∷ (submit_answer book message).looked ∷ []

abbrev pub submission : (book message : Bytes) → List ℕ
submission book message = once (λ m. answer book m ++ partners_found book m) message

-- the seller alone has filed: its block in slot 1, the sale in slot 2 of four
unfoldable pub of_submissions : Bytes → List Case
of_submissions book =
    -- the buyer's purchase: all four slots are looked at, though its partner stands in slot 2
    submission book (head buyer 1 1 ++ purchase 1 (steady 45000)) gives (0 ∷ 4 ∷ 2 ∷ [])
    -- the seller's own again: alone, and no slot more
    ∷ submission book (head seller 2 1 ++ sale 1 (steady 45000)) gives (0 ∷ 2 ∷ 0 ∷ [])
    -- a refusal, by rule 6: no look is reported
    ∷ once (answer book) (head buyer 0 1 ++ purchase 0 (steady 45000)) gives (6 ∷ 0 ∷ [])
    ∷ []

pub submissions : wrong (once of_submissions (sold 4)) ≡ []
unfolding paper examples of_submissions
submissions = refl

-- an empty book, and two series of which neither has a counterpart: sender and series are new
unfoldable pub of_new : Bytes → List Case
of_new book = submission book (head seller 1 2 ++ sale 1 (steady 1) ++ series "TS0003" 1 stranger seller (steady 2)) gives (0 ∷ 3 ∷ 0 ∷ 0 ∷ []) ∷ []

pub alone : wrong (once of_new (book_of 3)) ≡ []
unfolding paper examples of_new
alone = refl

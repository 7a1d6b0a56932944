-- The listing's example, from the opening to the text.
use Rattle.std.specs.Prelude.{◌≡◌, ◌∷◌, ◌++◌, ◌-◌}
use Rattle.laws.specs.Base.{refl, List, [], ℕ}
use Rattle.paper.specs.declared.PlainRunAnswer.{PlainRunAnswer}
use Rattle.paper.specs.Layout.{Bytes, quantity}
use Rattle.paper.specs.Book.{used, numbered}
use Rattle.paper.specs.PlainRun.{plain_run}
use Rattle.paper.specs.Listing.{listing, text}
use Rattle.cases.specs.Case.{Case, ◌gives◌, wrong, once, flag, mark_of, final_value, kilowatts}
use Rattle.cases.specs.Opened.{paper}
use Rattle.cases.specs.Examples.{seller, buyer, id, head, steady, purchase, late, after, bought, examples}

abbrev pub told_by_run : PlainRunAnswer → List ℕ
told_by_run a = a.number ∷ flag a.holds ∷ []

-- the kept net at a position of the sender in a slot
abbrev pub net : (book : Bytes) (slot position : ℕ) → List ℕ
net book slot position = quantity (numbered (used book) slot) (position - 1) ∷ []

-- the marks of both sides
abbrev pub both_marks : Bytes → List ℕ
both_marks book = mark_of book seller (id "TS0001") ++ mark_of book buyer (id "FPL01")

-- the text, and marks and nets beneath it
unfoldable pub of_both_filed : Bytes → List Case
of_both_filed book =
    listing book
    gives text
    "slot sender series in out differ first partner\n2 14XBILANZGR-1--F TS0001 14XBG-EMPFANG--0 14XBILANZGR-1--F 1 2 4\n4 14XBG-EMPFANG--0 FPL01 14XBG-EMPFANG--0 14XBILANZGR-1--F 1 2 2\n"
    ∷ mark_of book seller (id "TS0001") gives (0 ∷ 1 ∷ 9 ∷ 2 ∷ 4 ∷ [])
    ∷ mark_of book buyer (id "FPL01") gives (0 ∷ 1 ∷ 9 ∷ 2 ∷ 2 ∷ [])
    ∷ told_by_run (plain_run book) gives (0 ∷ 1 ∷ [])
    -- −45,000 as a number of four bytes
    ∷ net book 1 2 gives (4294922296 ∷ [])
    ∷ net book 3 2 gives (44000 ∷ [])
    ∷ net book 3 97 gives (0 ∷ [])
    -- the seller's quantity is final where the buyer has 44,000
    ∷ once (λ b. final_value b seller buyer 2) (late book) gives kilowatts 45000
    -- the buyer files again, with 45,000 throughout: the marks of both sides are put right
    ∷ once both_marks (after book (head buyer 2 1 ++ purchase 2 (steady 45000))) gives (0 ∷ 0 ∷ 0 ∷ 0 ∷ 4 ∷ 0 ∷ 0 ∷ 0 ∷ 0 ∷ 2 ∷ [])
    ∷ []

pub listed : wrong (once of_both_filed (bought 4)) ≡ []
unfolding paper examples of_both_filed
listed = refl

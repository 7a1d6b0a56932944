-- C-16, how many quarter-hours differ: the count in a mark, and both sides of what soundness asks of it.
use Rattle.std.specs.Prelude.{◌≡◌, ◌∷◌, ◌++◌}
use Rattle.laws.specs.Base.{refl, none, some, List, [], ℕ, take, drop}
use Rattle.paper.specs.Layout.{Bytes}
use Rattle.paper.specs.Book.{used, numbered}
use Rattle.paper.specs.Sound.{sound}
use Rattle.paper.specs.Marks.{mark_of as mark_bytes}
use Rattle.paper.specs.PlainRun.{plain_run}
use Rattle.cases.specs.Case.{Case, ◌gives◌, wrong, once, flag, yes, no}
use Rattle.cases.specs.Opened.{paper}
use Rattle.cases.specs.Examples.{buyer, head, steady, but_at, quantities_from, purchase, over, after, sold, examples}
use Rattle.cases.specs.Listing.{told_by_run, both_marks}

-- ---- the mark of a hundred quantities

abbrev pub all : (at : ℕ → ℕ) → Bytes
all at = quantities_from 1 100 at

-- beside a counterpart in slot 300
abbrev pub beside : (n : ℕ) (theirs : ℕ → ℕ) → Bytes
beside n theirs = mark_bytes n (all (steady 45000)) (some (all theirs)) 300

unfoldable pub of_marks : List Case
of_marks =
    -- alone
    mark_bytes 96 (all (steady 45000)) none 0 gives (0 ∷ 0 ∷ 0 ∷ 0 ∷ [])
    -- agree
    ∷ beside 96 (steady 45000) gives (0 ∷ 0 ∷ 44 ∷ 1 ∷ [])
    -- differ at one position, the first, the last; at two; at all
    ∷ beside 96 (but_at 1 0 (steady 45000)) gives (1 ∷ 1 ∷ 44 ∷ 1 ∷ [])
    ∷ beside 96 (but_at 96 0 (steady 45000)) gives (1 ∷ 96 ∷ 44 ∷ 1 ∷ [])
    ∷ beside 96 (but_at 3 0 (but_at 90 0 (steady 45000))) gives (2 ∷ 3 ∷ 44 ∷ 1 ∷ [])
    ∷ beside 96 (steady 44000) gives (96 ∷ 1 ∷ 44 ∷ 1 ∷ [])
    -- in one byte of four alone
    ∷ beside 96 (steady 45256) gives (96 ∷ 1 ∷ 44 ∷ 1 ∷ [])
    -- positions 1 to n
    ∷ beside 92 (but_at 92 0 (but_at 93 0 (steady 45000))) gives (1 ∷ 92 ∷ 44 ∷ 1 ∷ [])
    ∷ beside 92 (but_at 93 0 (steady 45000)) gives (0 ∷ 0 ∷ 44 ∷ 1 ∷ [])
    ∷ beside 100 (λ p. 1) gives (100 ∷ 1 ∷ 44 ∷ 1 ∷ [])
    ∷ []

pub marks : wrong of_marks ≡ []
unfolding paper examples of_marks
marks = refl

-- ---- a book: the seller has filed 45,000 throughout, the buyer 44,000

-- byte 104 of the block in slot 2
unfoldable pub counting : ℕ → Bytes → Bytes
counting count book = take 1024 book ++ over 104 (count ∷ []) (numbered (used book) 2) ++ drop 1536 book

unfoldable pub of_all_differ : Bytes → List Case
of_all_differ book =
    both_marks book gives (0 ∷ 96 ∷ 9 ∷ 1 ∷ 4 ∷ 0 ∷ 96 ∷ 9 ∷ 1 ∷ 2 ∷ [])
    ∷ told_by_run (plain_run book) gives (0 ∷ 1 ∷ [])
    -- "Soundness asks byte 104 at most n", not that it be true; the plain run compares it
    ∷ once (λ b. flag (sound b) ∷ []) (counting 97 book) gives no
    ∷ once (λ b. flag (sound b) ∷ []) (counting 0 book) gives yes
    ∷ once (λ b. told_by_run (plain_run b)) (counting 95 book) gives (0 ∷ 0 ∷ [])
    ∷ []

pub all_differ : wrong (once of_all_differ (after (sold 4) (head buyer 1 1 ++ purchase 1 (steady 44000)))) ≡ []
unfolding paper examples counting of_all_differ
all_differ = refl

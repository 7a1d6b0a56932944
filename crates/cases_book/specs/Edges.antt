-- "Both sides of each edge": the lines that are not marked P, and the edges that stand beside them.
use Rattle.std.specs.Prelude.{◌≡◌, ◌∷◌, ◌++◌}
use Rattle.laws.specs.Base.{refl, List, [], map, ℕ, take, drop, replicate}
use Rattle.laws.specs.Bytes.{written}
use Rattle.paper.specs.Check.{check_of}
use Rattle.paper.specs.Layout.{Bytes, version}
use Rattle.paper.specs.Book.{used, numbered}
use Rattle.cases.specs.Case.{Case, ◌gives◌, wrong, once, eic, submission, valid, invalid, broken, acceptance}
use Rattle.cases.specs.Opened.{paper}
use Rattle.cases.specs.Examples.{seller, buyer, head, steady, but_at, sale, purchase, buyback, with_version, book_of, late, after, sold, examples}

-- ---- EICs and checks

-- the check of a block that is zero but for one byte
abbrev pub check : (offset byte : ℕ) → List ℕ
check offset byte = check_of (written offset (byte ∷ []) (replicate 512 0)) ∷ []

unfoldable pub of_sums : List Case
of_sums =
    eic "10YAT-APG------L" gives valid 2791
    ∷ eic "14XAT-APCS-----Q" gives valid 2749
    ∷ eic "14XBG-EMPFANG--0" gives valid 2331
    ∷ eic "14XBILANZGR-1--F" gives valid 2353
    ∷ eic "13XBILANZGR-2--Q" gives valid 2342
    -- the last character would be right, but s is 0; but it is a hyphen
    ∷ eic "0000000000000000" gives invalid 0
    ∷ eic "14XBILANZGR-5---" gives invalid 2369
    ∷ check 505 1 gives (961 ∷ [])
    ∷ check 506 1 gives (31 ∷ [])
    ∷ check 507 1 gives (1 ∷ [])
    ∷ check 507 31 gives (31 ∷ [])
    ∷ []

pub sums : wrong of_sums ≡ []
unfolding paper of_sums
sums = refl

-- ---- versions

-- message version and series versions, by ascending slot
abbrev pub versions : Bytes → List ℕ
versions book = map version (used book)

-- the seller has filed twice, the second time with nothing changed
unfoldable pub filed_twice : Bytes
filed_twice = after (sold 3) (head seller 2 1 ++ sale 1 (steady 45000))

unfoldable pub of_versions : Bytes → List Case
of_versions book =
    versions book gives (2 ∷ 1 ∷ [])
    ∷ submission book (head seller 3 1 ++ sale 1 (steady 45000)) gives acceptance
    ∷ submission book (head seller 1 1 ++ sale 1 (steady 45000)) gives broken 6 0 0 51
    ∷ submission book (head seller 2 1 ++ sale 1 (steady 45000)) gives broken 6 0 0 51
    -- "With 2 stored, 4 passes" (C-12)
    ∷ submission book (head seller 4 1 ++ sale 1 (steady 45000)) gives acceptance
    ∷ submission book (head seller 999 1 ++ sale 1 (steady 45000)) gives acceptance
    ∷ submission book (head seller 1000 1 ++ sale 1 (steady 45000)) gives broken 6 0 0 51
    -- a new series has the message's version; the other keeps its own
    ∷ once versions (after book (head seller 3 2 ++ buyback 3 (steady 7) ++ sale 1 (steady 45000))) gives (3 ∷ 1 ∷ 3 ∷ [])
    ∷ []

-- "from a new sender any from 1" (C-12), up to 999; its series have the message's version
unfoldable pub of_first_versions : Bytes → List Case
of_first_versions book =
    submission book (head buyer 2 1 ++ purchase 2 (steady 45000)) gives acceptance
    ∷ submission book (head buyer 999 1 ++ purchase 999 (steady 45000)) gives acceptance
    ∷ submission book (head buyer 1000 1 ++ purchase 1000 (steady 45000)) gives broken 6 0 0 51
    ∷ submission book (head buyer 2 1 ++ purchase 1 (steady 45000)) gives broken 15 1 0 50
    ∷ []

pub first_versions : wrong (once of_first_versions (sold 5)) ≡ []
unfolding paper examples of_first_versions
first_versions = refl

pub versions_kept : wrong (once of_versions filed_twice) ≡ []
unfolding paper examples filed_twice of_versions
versions_kept = refl

-- the seller's stored message version made another
unfoldable pub stored_version : ℕ → Bytes → Bytes
stored_version v book = take 512 book ++ with_version v (numbered (used book) 1) ++ drop 1024 book

unfoldable pub of_last_version : Bytes → List Case
of_last_version book =
    once (λ b. submission b (head seller 999 1 ++ sale 1 (steady 45000))) (stored_version 998 book) gives acceptance
    ∷ once (λ b. submission b (head seller 1000 1 ++ sale 1 (steady 45000))) (stored_version 999 book) gives broken 6 0 0 51
    ∷ []

-- ---- a new series, positions 1 to 4 closed

unfoldable pub of_new_series : Bytes → List Case
of_new_series book =
    submission book (head buyer 1 1 ++ purchase 1 (but_at 4 5 (steady 0))) gives broken 14 1 4 57
    ∷ submission book (head buyer 1 1 ++ purchase 1 (but_at 5 5 (steady 0))) gives acceptance
    ∷ []

pub new_series : wrong (once of_new_series (late (book_of 2))) ≡ []
unfolding paper examples of_new_series
new_series = refl

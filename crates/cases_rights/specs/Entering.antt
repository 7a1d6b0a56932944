-- C-14, "entering: 1, 40 malformed or equal to a stored right in all but limits, 17".
use Rattle.std.specs.Prelude.{◌≡◌, ◌∷◌, ◌++◌}
use Rattle.laws.specs.Base.{refl, List, [], ℕ, take, drop, replicate}
use Rattle.laws.specs.Bytes.{written}
use Rattle.paper.specs.Layout.{Bytes, Block}
use Rattle.paper.specs.Rights.{right_allowed, enter_number, entered}
use Rattle.paper.specs.Listing.{text}
use Rattle.cases.specs.Case.{Case, ◌gives◌, wrong, once, flag, yes, no}
use Rattle.cases.specs.Opened.{paper}
use Rattle.cases.specs.Examples.{area, seller, buyer, nobody, id, steady, but_at, over, book_of, examples}
use Rattle.cases_rights.specs.Blocks.{ceps, tirag, right, yearly, daily, entering, rights}

abbrev pub enters : (book block : Bytes) → List ℕ
enters book block = once (λ b. enter_number book b ∷ []) block

abbrev form : (day : Block) (block : Bytes) → List ℕ
form day block = once (λ b. flag (right_allowed day b) ∷ []) block

abbrev taken : List ℕ
taken = 0 ∷ []

abbrev malformed : List ℕ
malformed = 40 ∷ []

-- ---- the form of a right, beside a day block: 1 where it is right, 0 where it is malformed

unfoldable pub of_form : Block → List Case
of_form day =
    form day (yearly (steady 15000)) gives yes
    -- limits from 0 to 9,999,999, and 0 above n
    ∷ form day (yearly (steady 0)) gives yes
    ∷ form day (yearly (but_at 96 9999999 (steady 0))) gives yes
    ∷ form day (yearly (but_at 96 10000000 (steady 0))) gives no
    ∷ form day (yearly (but_at 97 1 (steady 0))) gives no
    -- contract types from 1 to 99
    ∷ form day (right seller 99 area ceps "A" (steady 1)) gives yes
    ∷ form day (right seller 100 area ceps "A" (steady 1)) gives no
    ∷ form day (right seller 0 area ceps "A" (steady 1)) gives no
    -- the agreement is an id
    ∷ form day (right seller 4 area ceps "" (steady 1)) gives no
    ∷ form day (right seller 4 area ceps "a" (steady 1)) gives no
    -- exactly one area is ours, the other a valid EIC
    ∷ form day (right seller 4 ceps area "A" (steady 1)) gives yes
    ∷ form day (right seller 4 area area "A" (steady 1)) gives no
    ∷ form day (right seller 4 ceps tirag "A" (steady 1)) gives no
    ∷ form day (right seller 4 area nobody "A" (steady 1)) gives no
    -- the holder, a valid EIC that need not be a sender, is both parties
    ∷ form day (right nobody 4 area ceps "A" (steady 1)) gives no
    ∷ form day (over 72 buyer (yearly (steady 1))) gives no
    -- kind, n, type; version, slot, id and mark 0
    ∷ form day (over 0 (2 ∷ []) (yearly (steady 1))) gives no
    ∷ form day (over 1 (92 ∷ []) (yearly (steady 0))) gives no
    ∷ form day (over 2 (1 ∷ []) (yearly (steady 1))) gives no
    ∷ form day (over 4 (6 ∷ []) (yearly (steady 1))) gives no
    ∷ form day (over 7 (1 ∷ []) (yearly (steady 1))) gives no
    ∷ form day (over 8 (65 ∷ []) (yearly (steady 1))) gives no
    ∷ form day (over 104 (1 ∷ []) (yearly (steady 1))) gives no
    -- a wrong check; another length
    ∷ form day (written 511 (7 ∷ []) (yearly (steady 1))) gives no
    ∷ form day (take 511 (yearly (steady 1))) gives no
    ∷ form day (yearly (steady 1) ++ 0 ∷ []) gives no
    ∷ form day [] gives no
    ∷ []

pub forms : wrong (once of_form (take 512 (book_of 1))) ≡ []
unfolding paper examples rights of_form
forms = refl

-- ---- once, and where there is room: one right is entered

unfoldable pub of_stored : Bytes → List Case
of_stored book =
    enters book (yearly (steady 15000)) gives malformed
    ∷ enters book (yearly (steady 7)) gives malformed
    -- the other direction, another contract type, another agreement, another holder are other rights
    ∷ enters book (right seller 4 ceps area "CEPS-APG-Y-2723" (steady 15000)) gives taken
    ∷ enters book (right seller 1 area ceps "CEPS-APG-Y-2723" (steady 15000)) gives taken
    ∷ enters book (right buyer 4 area ceps "CEPS-APG-Y-2723" (steady 15000)) gives taken
    ∷ enters book (daily (steady 5000)) gives taken
    ∷ []

pub stored : wrong (once of_stored (entering (book_of 2) (yearly (steady 15000)))) ≡ []
unfolding paper examples rights of_stored
stored = refl

-- the one slot is taken: 40 comes before 17
unfoldable pub of_full : Bytes → List Case
of_full book =
    enters book (daily (steady 5000)) gives (17 ∷ [])
    ∷ enters book (yearly (steady 7)) gives malformed
    ∷ enters book (right seller 0 area ceps "A" (steady 1)) gives malformed
    -- a book that is not sound
    ∷ once (λ b. enters b (right seller 0 area ceps "A" (steady 1))) (drop 1 book) gives (1 ∷ [])
    ∷ []

pub full : wrong (once of_full (entering (book_of 1) (yearly (steady 15000)))) ≡ []
unfolding paper examples rights of_full
full = refl

-- ---- the bytes: the block as it is given, in the lowest free slot

unfoldable pub of_bytes : Bytes → List Case
of_bytes book =
    once (λ r. entered book r) (yearly (steady 15000)) gives (take 512 book ++ yearly (steady 15000) ++ replicate 512 0)
    ∷ once (λ r. entered book r) (yearly (but_at 97 1 (steady 0))) gives book
    ∷ []

pub bytes : wrong (once of_bytes (book_of 2)) ≡ []
unfolding paper examples rights of_bytes
bytes = refl

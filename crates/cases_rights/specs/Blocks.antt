-- Rights and external schedules, built by name after source 000's examples: an import of 19 MW without congestion, and one of 20 MW on a yearly and a daily right. Its trading partner has no EIC
-- there; here it has.
use Rattle.std.specs.Prelude.{◌∷◌, ◌++◌}
use Prim.Native.String.{String}
use Rattle.laws.specs.Base.{[], ℕ, replicate}
use Rattle.laws.specs.Bytes.{little}
use Rattle.paper.specs.Check.{sealed}
use Rattle.paper.specs.Layout.{Bytes, Block}
use Rattle.paper.specs.Rights.{entered}
use Rattle.paper.specs.Listing.{text}
use Rattle.cases.specs.Case.{once}
use Rattle.cases.specs.Examples.{area, seller, buyer, stranger, id, steady, quantities_from, book_of}

-- ---- the areas beyond the border

unfoldable pub ceps : Bytes
ceps = text "10YCZ-CEPS-----N"

unfoldable pub tirag : Bytes
tirag = text "10YAT-TIRAG-N--C"

-- ---- areas, parties and agreement, as a right and a series have them

unfoldable pub named : (in_area out_area in_party out_party : Bytes) (agreement : String) → Bytes
named in_area out_area in_party out_party agreement = in_area ++ out_area ++ in_party ++ out_party ++ id agreement ++ replicate 4 0

unfoldable pub right : (holder : Bytes) (contract : ℕ) (in_area out_area : Bytes) (agreement : String) (at : ℕ → ℕ) → Block
right holder contract in_area out_area agreement at =
    sealed (4 ∷ 96 ∷ 0 ∷ 0 ∷ 3 ∷ contract ∷ replicate 18 0 ++ named in_area out_area holder holder agreement ++ quantities_from 1 100 at ++ replicate 4 0)

unfoldable pub external : (name : String) (version type contract : ℕ) (in_area out_area in_party out_party : Bytes) (agreement : String) (at : ℕ → ℕ) → Block
external name version type contract in_area out_area in_party out_party agreement at =
    sealed
    (2 ∷ 96 ∷ little 2 version ++ type ∷ contract ∷ 0 ∷ 0 ∷ id name ++ named in_area out_area in_party out_party agreement ++ quantities_from 1 100 at ++ replicate 4 0)

-- ---- 000's rights, and schedules on them

unfoldable pub yearly : (at : ℕ → ℕ) → Block
yearly at = right seller 4 area ceps "CEPS-APG-Y-2723" at

unfoldable pub daily : (at : ℕ → ℕ) → Block
daily at = right seller 1 area ceps "CEPS-APG-D-14356" at

unfoldable pub on_yearly : (at : ℕ → ℕ) → Block
on_yearly at = external "FPL01" 1 3 4 area ceps seller stranger "CEPS-APG-Y-2723" at

unfoldable pub on_daily : (at : ℕ → ℕ) → Block
on_daily at = external "FPL02" 1 3 1 area ceps seller stranger "CEPS-APG-D-14356" at

-- without capacity; the sender stands on both sides
unfoldable pub netted : (name : String) (in_area out_area : Bytes) (at : ℕ → ℕ) → Block
netted name in_area out_area at = external name 1 6 0 in_area out_area seller seller "" at

-- ---- books

unfoldable pub entering : (book block : Bytes) → Bytes
entering book block = once (λ b. once (λ r. entered b r) block) book

-- 15 MW and 5 MW are entered
unfoldable pub with_rights : (slots : ℕ) → Bytes
with_rights slots = entering (entering (book_of slots) (yearly (steady 15000))) (daily (steady 5000))

-- ---- to name it on an `unfolding` line opens all of these
unfoldable pub rights : ℕ
unfolding ceps tirag named right external yearly daily on_yearly on_daily netted entering with_rights
rights = 0

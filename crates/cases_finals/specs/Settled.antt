-- C-20, settled quantities cancel: a trade that both sides file counts once, one the other way round is another pair, a side alone counts as its final does; by both rules, with the sums
-- over the parties and the refusals. Positions 1 to 4 are closed.
use Rattle.std.specs.Prelude.{◌≡◌, ◌∷◌, ◌++◌}
use Rattle.laws.specs.Base.{refl, List, [], ℕ, take}
use Rattle.laws.specs.Lists.{total}
use Rattle.laws.specs.Cut.{join}
use Rattle.paper.specs.declared.SettledAnswer.{SettledAnswer}
use Rattle.paper.specs.Layout.{Bytes, Block}
use Rattle.paper.specs.Book.{day_block, used}
use Rattle.paper.specs.Settled.{parties, bought_by, sold_by, settled_in, settled}
use Rattle.cases.specs.Case.{Case, ◌gives◌, wrong, once}
use Rattle.cases.specs.Opened.{paper}
use Rattle.cases.specs.Examples.{seller, buyer, stranger, head, steady, but_at, series, sale, purchase, buyback, book_of, late, after, examples}
use Rattle.cases_finals.specs.Finals.{day_with}

-- ---- the book: each side files both trades, the second with other quantities, in six slots

unfoldable pub sellers_two : Bytes
sellers_two = head seller 1 2 ++ sale 1 (steady 45000) ++ buyback 1 (steady 10000)

unfoldable pub buyers_two : Bytes
buyers_two = head buyer 1 2 ++ purchase 1 (but_at 2 44000 (steady 46000)) ++ series "FPL02" 1 seller buyer (steady 12000)

-- ---- what is asked: number, bought and sold

abbrev pub told : SettledAnswer → List ℕ
told a = a.number ∷ a.bought ∷ a.sold ∷ []

unfoldable pub of_party : (day : Block) (us : List Block) (party : Bytes) (position : ℕ) → List ℕ
of_party day us party position = told (settled_in day us party position)

-- what all parties buy, and what they sell
unfoldable pub of_all : (day : Block) (us : List Block) (position : ℕ) → List ℕ
of_all day us position = total (bought_by day us position) (parties us) ∷ total (sold_by day us position) (parties us) ∷ []

-- at position 2: buyer, seller, a stranger and all
unfoldable pub at_second : (buyers sellers all : List ℕ) (book : Bytes) → List Case
at_second buyers sellers all book =
    of_party (day_block book) (used book) buyer 2 gives (0 ∷ buyers)
    ∷ of_party (day_block book) (used book) seller 2 gives (0 ∷ sellers)
    ∷ of_party (day_block book) (used book) stranger 2 gives (0 ∷ 0 ∷ 0 ∷ [])
    ∷ of_all (day_block book) (used book) 2 gives all
    ∷ []

-- ---- the seller alone has filed: by its own rule its sale settles, by the lesser nothing; of what the buyer sells it has filed nothing

unfoldable pub of_one_side : Bytes → List Case
of_one_side book =
    at_second (45000 ∷ 0 ∷ []) (0 ∷ 45000 ∷ []) (45000 ∷ 45000 ∷ []) book
    ++ once (at_second (0 ∷ 0 ∷ []) (0 ∷ 0 ∷ []) (0 ∷ 0 ∷ [])) (day_with 6 1 book)

pub one_side : wrong (once of_one_side (late (after (book_of 6) sellers_two))) ≡ []
unfolding paper examples day_with sellers_two of_party of_all at_second of_one_side
one_side = refl

-- ---- both have: each pair once. By the seller's rule 45,000 and 12,000, by the lesser 44,000 and 10,000

unfoldable pub of_both_sides : Bytes → List Case
of_both_sides book =
    at_second (45000 ∷ 12000 ∷ []) (12000 ∷ 45000 ∷ []) (57000 ∷ 57000 ∷ []) book
    ++ once (at_second (44000 ∷ 10000 ∷ []) (10000 ∷ 44000 ∷ []) (54000 ∷ 54000 ∷ [])) (day_with 6 1 book)
    ++ join (parties (used book)) gives (buyer ++ seller)
    -- the call as a whole, and its refusals in their order
    ∷ told (settled book buyer 2) gives (0 ∷ 45000 ∷ 12000 ∷ [])
    ∷ told (settled (take 1024 book) buyer 0) gives (1 ∷ 0 ∷ 0 ∷ [])
    ∷ of_party (day_block book) (used book) buyer 0 gives (24 ∷ 0 ∷ 0 ∷ [])
    ∷ of_party (day_block book) (used book) buyer 97 gives (24 ∷ 0 ∷ 0 ∷ [])
    ∷ of_party (day_block book) (used book) buyer 4 gives (0 ∷ 45000 ∷ 12000 ∷ [])
    ∷ of_party (day_block book) (used book) buyer 5 gives (25 ∷ 0 ∷ 0 ∷ [])
    ∷ of_party (day_block book) (used book) stranger 5 gives (25 ∷ 0 ∷ 0 ∷ [])
    ∷ []

pub both_sides : wrong (once of_both_sides (late (after (after (book_of 6) sellers_two) buyers_two))) ≡ []
unfolding paper examples day_with sellers_two buyers_two of_party of_all at_second of_both_sides
both_sides = refl

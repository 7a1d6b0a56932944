-- Each number of the table of rules, with its series number, position, code and character; and the order of the rules. Each message differs from a right one in what its line says.
use Rattle.std.specs.Prelude.{◌≡◌, ◌∷◌, ◌++◌}
use Rattle.laws.specs.Base.{refl, List, [], take, replicate}
use Rattle.laws.specs.Bytes.{written}
use Rattle.paper.specs.Layout.{Bytes, Block}
use Rattle.paper.specs.Listing.{text}
use Rattle.cases.specs.Case.{Case, ◌gives◌, wrong, once, submission, broken, broken_by, acceptance}
use Rattle.cases.specs.Opened.{paper}
use Rattle.cases.specs.Examples.{area, seller, buyer, stranger, nobody, id, head, steady, but_at, series, sale, purchase, buyback, over, with_n, with_id, with_receiver, with_day, with_business_type, with_contract_type, with_in_area, with_out_area, with_agreement, book_of, late, after, examples}

-- ---- a new sender and its one series, 0 throughout

unfoldable pub first_block : Block
first_block = head buyer 1 1

unfoldable pub quiet : Block
quiet = purchase 1 (steady 0)

-- rules 1 and 2: the message as a whole
unfoldable pub of_shape : Bytes → List Case
of_shape book =
    submission (replicate 1024 0) (first_block ++ quiet) gives broken 1 0 0 0
    ∷ submission book first_block gives broken 2 0 0 0
    ∷ submission book (take 1023 (first_block ++ quiet)) gives broken 2 0 0 0
    ∷ submission book (first_block ++ written 200 (1 ∷ []) quiet) gives broken 2 0 0 0
    ∷ submission book (quiet ++ quiet) gives broken 2 0 0 0
    ∷ submission book (first_block ++ first_block) gives broken 2 0 0 0
    ∷ submission book (head buyer 1 2 ++ quiet) gives broken 2 0 0 0
    ∷ submission book (over 6 (1 ∷ []) first_block ++ quiet) gives broken 2 0 0 0
    ∷ submission book (over 64 (1 ∷ []) first_block ++ quiet) gives broken 2 0 0 0
    ∷ submission book (over 507 (1 ∷ []) first_block ++ quiet) gives broken 2 0 0 0
    ∷ submission book (first_block ++ over 7 (1 ∷ []) quiet) gives broken 2 0 0 0
    ∷ submission book (first_block ++ over 104 (1 ∷ []) quiet) gives broken 2 0 0 0
    ∷ submission book (first_block ++ with_n 92 quiet) gives broken 2 0 0 0
    ∷ []

-- rules 3 to 6: the first block
unfoldable pub of_first_block : Bytes → List Case
of_first_block book =
    submission book (with_receiver area first_block ++ quiet) gives broken 3 0 0 53
    ∷ submission book (head nobody 1 1 ++ quiet) gives broken_by 4 0 78 16
    ∷ submission book (with_day (text "20190201") first_block ++ quiet) gives broken 5 0 0 4
    ∷ submission book (with_day (text "2019-1-1") first_block ++ quiet) gives broken 5 0 0 4
    ∷ submission book (with_n 92 first_block ++ with_n 92 quiet) gives broken 5 0 0 4
    ∷ submission book (with_n 95 first_block ++ with_n 95 quiet) gives broken 5 0 0 4
    ∷ submission book (with_id (id "") first_block ++ quiet) gives broken 6 0 0 51
    ∷ submission book (with_id (id "plan") first_block ++ quiet) gives broken 6 0 0 51
    ∷ submission book (over 23 (65 ∷ []) first_block ++ quiet) gives broken 6 0 0 51
    ∷ submission book (head buyer 0 1 ++ quiet) gives broken 6 0 0 51
    ∷ submission book (head buyer 1000 1 ++ quiet) gives broken 6 0 0 51
    ∷ []

-- rules 7 to 10: what a series is
unfoldable pub of_form : Bytes → List Case
of_form book =
    submission book (first_block ++ with_id (id "fpl") quiet) gives broken 7 1 0 55
    ∷ submission book (first_block ++ over 23 (65 ∷ []) quiet) gives broken 7 1 0 55
    ∷ submission book (head buyer 1 2 ++ quiet ++ series "FPL01" 1 seller buyer (steady 0)) gives broken 7 2 0 55
    ∷ submission book (head buyer 1 2 ++ quiet ++ series "FPL02" 1 buyer seller (steady 0)) gives broken 7 2 0 55
    ∷ submission book (first_block ++ series "FPL01" 1 buyer nobody (steady 0)) gives broken_by 8 1 22 16
    ∷ submission book (first_block ++ series "FPL01" 1 nobody buyer (steady 0)) gives broken_by 8 1 22 16
    ∷ submission book (first_block ++ series "FPL01" 1 buyer buyer (steady 0)) gives broken 8 1 0 22
    ∷ submission book (first_block ++ series "FPL01" 1 stranger seller (steady 0)) gives broken 8 1 0 22
    ∷ submission book (first_block ++ with_in_area stranger quiet) gives broken 9 1 0 23
    ∷ submission book (first_block ++ with_out_area nobody quiet) gives broken 9 1 0 23
    ∷ submission book (first_block ++ with_business_type 3 quiet) gives broken 9 1 0 23
    ∷ submission book (first_block ++ with_business_type 5 quiet) gives broken 10 1 0 62
    ∷ submission book (first_block ++ with_contract_type 1 quiet) gives broken 10 1 0 62
    ∷ submission book (first_block ++ with_agreement (id "A") quiet) gives broken 10 1 0 62
    ∷ []

-- rules 11 to 15, then 17: what a series says. Positions 1 to 4 are closed; the book has one slot
unfoldable pub of_values : Bytes → List Case
of_values book =
    submission book (first_block ++ purchase 1 (but_at 96 2147483648 (steady 0))) gives broken 11 1 96 46
    ∷ submission book (first_block ++ purchase 1 (but_at 96 2147483647 (steady 0))) gives broken 12 1 96 42
    ∷ submission book (first_block ++ purchase 1 (but_at 96 10000000 (steady 0))) gives broken 12 1 96 42
    ∷ submission book (first_block ++ purchase 1 (but_at 96 9999999 (steady 0))) gives broken 17 0 0 0
    ∷ submission book (first_block ++ purchase 1 (but_at 97 1 (steady 0))) gives broken 13 1 97 49
    ∷ submission book (first_block ++ purchase 1 (but_at 100 2147483648 (steady 0))) gives broken 13 1 100 49
    ∷ submission book (first_block ++ purchase 1 (but_at 6 10000000 (but_at 7 2147483648 (steady 0)))) gives broken 12 1 6 42
    ∷ submission book (first_block ++ purchase 1 (but_at 1 5 (but_at 97 5 (steady 0)))) gives broken 13 1 97 49
    ∷ submission book (first_block ++ purchase 2 (but_at 4 5 (steady 0))) gives broken 14 1 4 57
    ∷ submission book (first_block ++ purchase 1 (but_at 5 5 (steady 0))) gives broken 17 0 0 0
    ∷ submission book (first_block ++ purchase 0 (steady 0)) gives broken 15 1 0 50
    ∷ submission book (head buyer 1 2 ++ purchase 2 (steady 0) ++ with_id (id "fpl") quiet) gives broken 15 1 0 50
    ∷ submission book (head buyer 1 2 ++ quiet ++ with_business_type 5 (series "FPL02" 1 seller buyer (steady 0))) gives broken 10 2 0 62
    ∷ []

-- ---- a known sender

-- the seller has filed 45,000 throughout; positions 1 to 4 are closed; two slots, both used
unfoldable pub of_known : Bytes → List Case
of_known book =
    submission book (head seller 1 1 ++ sale 1 (steady 45000)) gives broken 6 0 0 51
    ∷ submission book (with_id (id "OTHER") (head seller 2 1) ++ sale 1 (steady 45000)) gives broken 6 0 0 51
    ∷ submission book (head seller 2 1 ++ series "TS0001" 1 seller buyer (steady 45000)) gives broken 7 1 0 55
    ∷ submission book (head seller 2 1 ++ series "TS0001" 1 nobody nobody (steady 45000)) gives broken 7 1 0 55
    ∷ submission book (head seller 2 1 ++ series "TS0009" 1 buyer seller (steady 45000)) gives broken 7 1 0 55
    ∷ submission book (head seller 2 1 ++ sale 2 (but_at 4 0 (steady 45000))) gives broken 14 1 4 57
    ∷ submission book (head seller 2 1 ++ sale 2 (but_at 5 0 (steady 45000))) gives acceptance
    ∷ submission book (head seller 2 1 ++ sale 1 (but_at 5 0 (steady 45000))) gives broken 15 1 0 50
    ∷ submission book (head seller 2 1 ++ sale 2 (steady 45000)) gives broken 15 1 0 50
    ∷ submission book (head seller 2 1 ++ buyback 2 (steady 0)) gives broken 16 0 0 52
    ∷ submission book (head seller 2 1 ++ buyback 1 (steady 0)) gives broken 15 1 0 50
    ∷ submission book (head seller 2 2 ++ sale 1 (steady 45000) ++ buyback 2 (steady 0)) gives broken 17 0 0 0
    -- nothing is written before 16 and 17 are reached
    ∷ after book (head seller 2 1 ++ buyback 2 (steady 0)) gives book
    ∷ after book (head seller 2 2 ++ sale 2 (but_at 5 0 (steady 45000)) ++ buyback 2 (steady 0)) gives book
    ∷ []

pub shapes : wrong (once of_shape (late (book_of 1))) ≡ []
unfolding paper examples first_block quiet of_shape
shapes = refl

pub first_blocks : wrong (once of_first_block (late (book_of 1))) ≡ []
unfolding paper examples first_block quiet of_first_block
first_blocks = refl

pub forms : wrong (once of_form (late (book_of 1))) ≡ []
unfolding paper examples first_block quiet of_form
forms = refl

pub values : wrong (once of_values (late (book_of 1))) ≡ []
unfolding paper examples first_block quiet of_values
values = refl

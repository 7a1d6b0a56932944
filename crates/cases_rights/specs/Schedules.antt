-- C-14, external schedules: rules 7 to 10 by type, 18 and 19, nets by area, marks and finals without them.
use Rattle.std.specs.Prelude.{◌≡◌, ◌∷◌, ◌++◌}
use Rattle.laws.specs.Base.{refl, some, option_map, option_get_or, List, [], ℕ}
use Rattle.laws.specs.Lists.{find}
use Rattle.paper.specs.Layout.{Bytes, Block, nets, entry}
use Rattle.paper.specs.Book.{used, is_sender_block_of}
use Rattle.paper.specs.Listing.{text}
use Rattle.paper.specs.PlainRun.{plain_run}
use Rattle.cases.specs.Case.{Case, ◌gives◌, wrong, once, flag, submission, mark_of, final_value, acceptance, broken, broken_by, refused}
use Rattle.cases.specs.Opened.{paper}
use Rattle.cases.specs.Examples.{area, seller, buyer, stranger, nobody, id, head, steady, but_at, series, sale, purchase, book_of, minute, after, with_business_type, with_contract_type, with_agreement, with_out_area, with_version, examples}
use Rattle.paper.specs.Clock.{clock_moved}
use Rattle.cases_rights.specs.Blocks.{ceps, tirag, right, external, on_yearly, on_daily, netted, entering, with_rights, rights}

-- ---- 000's messages, in a book with the seller's two rights and room

unfoldable pub of_rights : Bytes → List Case
of_rights book =
    -- 20 MW on both rights, each at its limit
    submission book (head seller 1 2 ++ on_yearly (steady 15000) ++ on_daily (steady 5000)) gives acceptance
    -- 19 MW without capacity, and both with a trade
    ∷ submission book (head seller 1 1 ++ netted "FPL01" area tirag (steady 19000)) gives acceptance
    ∷ submission book (head seller 1 2 ++ sale 1 (steady 45000) ++ on_daily (steady 0)) gives acceptance
    -- above the limit by one, at the lowest such position
    ∷ submission book (head seller 1 1 ++ on_daily (but_at 7 5001 (but_at 9 5001 (steady 5000)))) gives broken 19 1 7 59
    ∷ submission book (head seller 1 2 ++ on_yearly (steady 15000) ++ on_daily (but_at 96 5001 (steady 5000))) gives broken 19 2 96 59
    -- the sum of two series on one right: at the limit, and above it, where the second is named
    ∷ submission book (head seller 1 2 ++ on_daily (steady 3000) ++ external "FPL03" 1 3 1 area ceps seller buyer "CEPS-APG-D-14356" (steady 2000)) gives acceptance
    ∷ submission book (head seller 1 2 ++ on_daily (steady 3000) ++ external "FPL03" 1 3 1 area ceps seller buyer "CEPS-APG-D-14356" (but_at 2 2001 (steady 2000))) gives broken 19 2 2 59
    -- no such right: another contract type, agreement, direction; and not the sender's
    ∷ submission book (head seller 1 1 ++ external "FPL01" 1 3 2 area ceps seller seller "CEPS-APG-Y-2723" (steady 0)) gives broken 18 1 0 59
    ∷ submission book (head seller 1 1 ++ external "FPL01" 1 3 4 area ceps seller seller "CEPS-APG-Y-2724" (steady 0)) gives broken 18 1 0 59
    ∷ submission book (head seller 1 1 ++ external "FPL01" 1 3 4 ceps area seller seller "CEPS-APG-Y-2723" (steady 0)) gives broken 18 1 0 59
    ∷ submission book (head buyer 1 1 ++ external "FPL01" 1 3 4 area ceps seller buyer "CEPS-APG-Y-2723" (steady 0)) gives broken 18 1 0 59
    -- 11 to 13 come before 18; 18 before 14 and 15
    ∷ submission book (head seller 1 1 ++ external "FPL01" 1 3 2 area ceps seller seller "A" (but_at 97 1 (steady 0))) gives broken 13 1 97 49
    ∷ submission book (head seller 1 1 ++ external "FPL01" 9 3 2 area ceps seller seller "A" (steady 0)) gives broken 18 1 0 59
    ∷ submission book (head seller 1 1 ++ external "FPL01" 9 3 1 area ceps seller seller "CEPS-APG-D-14356" (steady 5001)) gives broken 19 1 1 59
    ∷ []

pub on_rights : wrong (once of_rights (with_rights 8)) ≡ []
unfolding paper examples rights of_rights
on_rights = refl

-- ---- rules 7 to 10 by type, in an empty book

unfoldable pub of_types : Bytes → List Case
of_types book =
    -- 8: both may be the sender; one must be
    submission book (head seller 1 1 ++ external "E" 1 6 0 area ceps seller buyer "" (steady 1)) gives acceptance
    ∷ submission book (head seller 1 1 ++ external "E" 1 6 0 area ceps buyer buyer "" (steady 1)) gives broken 8 1 0 22
    ∷ submission book (head seller 1 1 ++ external "E" 1 6 0 area ceps nobody seller "" (steady 1)) gives broken_by 8 1 22 16
    -- 9: exactly one area is ours, the other a valid EIC
    ∷ submission book (head seller 1 1 ++ netted "E" ceps area (steady 1)) gives acceptance
    ∷ submission book (head seller 1 1 ++ netted "E" area area (steady 1)) gives broken 9 1 0 23
    ∷ submission book (head seller 1 1 ++ netted "E" ceps tirag (steady 1)) gives broken 9 1 0 23
    ∷ submission book (head seller 1 1 ++ netted "E" area nobody (steady 1)) gives broken 9 1 0 23
    -- 10: no capacity with A06, all of it with A03, no other type
    ∷ submission book (head seller 1 1 ++ with_contract_type 1 (netted "E" area ceps (steady 1))) gives broken 10 1 0 62
    ∷ submission book (head seller 1 1 ++ with_agreement (id "A") (netted "E" area ceps (steady 1))) gives broken 10 1 0 62
    ∷ submission book (head seller 1 1 ++ external "E" 1 3 0 area ceps seller seller "A" (steady 1)) gives broken 10 1 0 62
    ∷ submission book (head seller 1 1 ++ external "E" 1 3 100 area ceps seller seller "A" (steady 1)) gives broken 10 1 0 62
    ∷ submission book (head seller 1 1 ++ external "E" 1 3 1 area ceps seller seller "" (steady 1)) gives broken 10 1 0 62
    ∷ submission book (head seller 1 1 ++ with_business_type 5 (sale 1 (steady 1))) gives broken 10 1 0 62
    -- 7: a trade and a schedule with one pair are two series; two schedules with one key are not
    ∷ submission book (head seller 1 2 ++ sale 1 (steady 1) ++ external "E" 1 6 0 area ceps buyer seller "" (steady 1)) gives acceptance
    ∷ submission book (head seller 1 2 ++ netted "E" area ceps (steady 1) ++ netted "F" area tirag (steady 1)) gives acceptance
    ∷ submission book (head seller 1 2 ++ netted "E" area ceps (steady 1) ++ netted "F" area ceps (steady 2)) gives broken 7 2 0 55
    -- a pair seen earlier, with another area: 9, where it was 7
    ∷ submission book (head seller 1 2 ++ sale 1 (steady 1) ++ with_out_area ceps (series "TS0009" 1 buyer seller (steady 1))) gives broken 9 2 0 23
    ∷ []

pub types : wrong (once of_types (book_of 4)) ≡ []
unfolding paper examples rights of_types
types = refl

-- ---- what is kept: the seller sells 45 MW to the buyer, brings in 19 MW and takes out 4 MW; all three have one id each, two of them one pair

unfoldable pub kept : Bytes
kept = after (book_of 8) (head seller 1 3 ++ sale 1 (steady 45000) ++ external "IN" 1 6 0 area tirag buyer seller "" (steady 19000) ++ external "OUT" 1 6 0 tirag area seller seller "" (steady 4000))

-- then the buyer files its side, all positions are closed
unfoldable pub both : Bytes
both = once (λ b. clock_moved b (minute 1500)) (after kept (head buyer 1 1 ++ purchase 1 (steady 44000)))

abbrev net_at : (book e : Bytes) (k : ℕ) → List ℕ
net_at book e k = entry (option_get_or (option_map nets (find (is_sender_block_of e) (used book))) []) k ∷ []

unfoldable pub of_kept : Bytes → List Case
of_kept book =
    -- 19,000 in, 45,000 sold and 4,000 out: −30,000
    net_at book seller 0 gives (4294937296 ∷ [])
    ∷ net_at book buyer 0 gives (44000 ∷ [])
    -- the mark of the trade; of the schedules that of a series alone, though one has the trade's parties
    ∷ mark_of book seller (id "TS0001") gives (0 ∷ 96 ∷ 9 ∷ 1 ∷ 6 ∷ [])
    ∷ mark_of book seller (id "IN") gives (0 ∷ 0 ∷ 28 ∷ 0 ∷ 0 ∷ [])
    ∷ mark_of book seller (id "OUT") gives (0 ∷ 0 ∷ 28 ∷ 0 ∷ 0 ∷ [])
    ∷ mark_of book buyer (id "FPL01") gives (0 ∷ 96 ∷ 9 ∷ 1 ∷ 2 ∷ [])
    -- the final of the pair is the trade's; of parties that only schedules have there is none
    ∷ final_value book seller buyer 1 gives (0 ∷ 45000 ∷ [])
    ∷ final_value book seller seller 1 gives refused 26
    ∷ ((plain_run book).number ∷ flag (plain_run book).holds ∷ []) gives (0 ∷ 1 ∷ [])
    -- an id is tied to its key: a trade that turns into a schedule would take a final away
    ∷ submission book (head seller 2 3 ++ external "TS0001" 2 6 0 area tirag buyer seller "" (steady 45000) ++ external "IN" 1 6 0 area tirag buyer seller "" (steady 19000)
    ++ external "OUT" 1 6 0 tirag area seller seller "" (steady 4000)) gives broken 7 1 0 55
    -- 14 and 16 hold for schedules as for trades
    ∷ submission book (head seller 2 3 ++ sale 1 (steady 45000) ++ external "IN" 2 6 0 area tirag buyer seller "" (steady 18000)
    ++ external "OUT" 1 6 0 tirag area seller seller "" (steady 4000)) gives broken 14 2 1 57
    ∷ submission book (head seller 2 2 ++ sale 1 (steady 45000) ++ external "IN" 1 6 0 area tirag buyer seller "" (steady 19000)) gives broken 16 0 0 52
    ∷ []

pub kepts : wrong (once of_kept both) ≡ []
unfolding paper examples rights kept both of_kept
kepts = refl

-- Readings, opening, clock and quantity text where document 01 leaves room for doubt.
use Rattle.std.specs.Prelude.{◌≡◌, ◌∷◌, ◌++◌}
use Rattle.laws.specs.Base.{refl, List, [], map, ℕ, take, drop, replicate}
use Rattle.paper.specs.declared.ClockAnswer.{ClockAnswer}
use Rattle.paper.specs.Layout.{Bytes}
use Rattle.paper.specs.Message.{series_numbered}
use Rattle.paper.specs.Codes.{reason_code, status_code, acknowledgement, uninterpretable_message, desk_notice, reply_to}
use Rattle.paper.specs.Marks.{state_code, mark_code}
use Rattle.paper.specs.Opening.{naming_none, open_number, opened}
use Rattle.paper.specs.Clock.{clock_answer, clock_moved}
use Rattle.paper.specs.Readings.{accepted_block}
use Rattle.paper.specs.Listing.{text, header, listing}
use Rattle.cases.specs.Case.{Case, ◌gives◌, wrong, once, reads, mark_of, final_value, kilowatts, refused}
use Rattle.cases.specs.Opened.{paper}
use Rattle.cases.specs.Examples.{area, receiver, seller, buyer, stranger, nobody, day, id, head, steady, sale, purchase, parameters, book_of, minute, late, after, examples}
use Rattle.cases.specs.Proved.{prints}

-- ---- quantity text

unfoldable pub of_texts : List Case
of_texts =
    reads "0000" gives kilowatts 0
    ∷ reads "0007.5" gives kilowatts 7500
    ∷ reads "0.05" gives kilowatts 50
    ∷ reads "1.0005" gives refused 30
    ∷ reads "-9999.999" gives refused 31
    ∷ reads "-" gives refused 30
    ∷ reads "-10000" gives refused 30
    ∷ reads "-.5" gives refused 30
    ∷ reads "-1." gives refused 30
    ∷ reads "--5" gives refused 30
    ∷ reads "+5" gives refused 30
    ∷ reads " 5" gives refused 30
    ∷ reads "5 " gives refused 30
    ∷ reads "1,5" gives refused 30
    ∷ prints 0 5 gives (0 ∷ 5 ∷ text "0.000")
    ∷ prints 9999999 8 gives (0 ∷ 8 ∷ text "9999.999")
    ∷ prints 10000000 8 gives (30 ∷ 0 ∷ replicate 8 7)
    ∷ prints 10000000 0 gives (30 ∷ 0 ∷ [])
    -- a short buffer stays as it was; bytes after the text stay
    ∷ prints 60000 5 gives (32 ∷ 0 ∷ replicate 5 7)
    ∷ prints 194 8 gives (0 ∷ 5 ∷ text "0.194" ++ replicate 3 7)
    ∷ []

pub texts : wrong of_texts ≡ []
unfolding paper of_texts
texts = refl

-- ---- codes and replies

-- kind, status, code
abbrev pub replied : ℕ → List ℕ
replied number = (reply_to number).kind ∷ (reply_to number).status ∷ (reply_to number).code ∷ []

-- the rules' codes stand in Refusals
unfoldable pub of_codes : List Case
of_codes =
    map reason_code (30 ∷ 31 ∷ []) gives (42 ∷ 46 ∷ [])
    ∷ map reason_code (18 ∷ 19 ∷ []) gives (59 ∷ 59 ∷ [])
    ∷ map reason_code (20 ∷ 21 ∷ 22 ∷ 23 ∷ 24 ∷ 25 ∷ 26 ∷ 32 ∷ 40 ∷ []) gives replicate 9 0
    ∷ map status_code (0 ∷ 1 ∷ 2 ∷ 16 ∷ 17 ∷ []) gives (1 ∷ 0 ∷ 0 ∷ 2 ∷ 0 ∷ [])
    ∷ replied 0 gives (acknowledgement ∷ 1 ∷ 1 ∷ [])
    ∷ replied 1 gives (desk_notice ∷ 0 ∷ 0 ∷ [])
    ∷ replied 2 gives (uninterpretable_message ∷ 0 ∷ 0 ∷ [])
    ∷ replied 3 gives (acknowledgement ∷ 2 ∷ 53 ∷ [])
    ∷ replied 16 gives (acknowledgement ∷ 2 ∷ 52 ∷ [])
    ∷ replied 17 gives (desk_notice ∷ 0 ∷ 0 ∷ [])
    ∷ replied 19 gives (acknowledgement ∷ 2 ∷ 59 ∷ [])
    ∷ replied 40 gives (desk_notice ∷ 0 ∷ 0 ∷ [])
    ∷ map state_code (1 ∷ 2 ∷ 3 ∷ []) gives (28 ∷ 0 ∷ 9 ∷ [])
    -- by count and partner: alone, agree, differ; a count without a partner, which no true mark has
    ∷ (mark_code 0 0 ∷ mark_code 0 4 ∷ mark_code 1 4 ∷ mark_code 96 4 ∷ mark_code 1 0 ∷ []) gives (28 ∷ 0 ∷ 9 ∷ 9 ∷ 9 ∷ [])
    ∷ []

pub codes : wrong of_codes ≡ []
unfolding paper of_codes
codes = refl

-- ---- opening

-- a buffer of some length
abbrev pub opening : (length n lead : ℕ) (date area receiver : Bytes) → List ℕ
opening length n lead date area receiver = open_number (replicate length 7) (naming_none n lead date area receiver) ∷ []

unfoldable pub of_opening : List Case
of_opening =
    opening 1024 96 0 day area receiver gives (0 ∷ [])
    ∷ opening 1024 92 1440 day area area gives (0 ∷ [])
    ∷ opening 512 96 45 day area receiver gives (20 ∷ [])
    ∷ opening 1023 96 45 day area receiver gives (20 ∷ [])
    ∷ opening 512 95 45 day nobody receiver gives (20 ∷ [])
    ∷ opening 1024 95 45 day area receiver gives (21 ∷ [])
    ∷ opening 1024 96 1441 day area receiver gives (21 ∷ [])
    -- a lead that two bytes hold only by its remainder, 45
    ∷ opening 1024 96 65581 day area receiver gives (21 ∷ [])
    ∷ opening 1024 96 45 (text "2019-131") area receiver gives (21 ∷ [])
    ∷ opening 1024 96 45 (text "2019131") area receiver gives (21 ∷ [])
    ∷ opening 1024 96 45 day nobody receiver gives (21 ∷ [])
    ∷ opening 1024 96 45 day area (take 15 receiver) gives (21 ∷ [])
    -- a refused opening writes nothing
    ∷ opened (replicate 1024 7) (parameters 1441) gives replicate 1024 7
    ∷ []

pub openings : wrong of_opening ≡ []
unfolding paper examples of_opening
openings = refl

-- ---- clock: number, then n, lead and clock as kept

abbrev pub told_by_clock : ClockAnswer → List ℕ
told_by_clock a = a.number ∷ a.state.n ∷ a.state.lead ∷ a.state.clock.0 ∷ []

abbrev pub clock_to : Bytes → ℕ → List ℕ
clock_to book m = told_by_clock (clock_answer book m)

-- the clock stands at minute 15
unfoldable pub of_clock : Bytes → List Case
of_clock book =
    clock_to book (minute 15) gives (0 ∷ 96 ∷ 45 ∷ 10095 ∷ [])
    ∷ clock_to book (minute 14) gives (22 ∷ 96 ∷ 45 ∷ 10095 ∷ [])
    ∷ clock_to book (minute 1500) gives (0 ∷ 96 ∷ 45 ∷ 11580 ∷ [])
    ∷ clock_to book (minute 1501) gives (22 ∷ 96 ∷ 45 ∷ 10095 ∷ [])
    ∷ clock_to (replicate 1024 0) (minute 15) gives (1 ∷ 0 ∷ 0 ∷ 0 ∷ [])
    ∷ clock_moved book (minute 14) gives book
    ∷ []

pub clocks : wrong (once of_clock (late (book_of 1))) ≡ []
unfolding paper examples of_clock
clocks = refl

-- ---- mark, block, final

-- the seller alone has filed; positions 1 to 4 are closed
unfoldable pub of_seller : Bytes → List Case
of_seller book =
    mark_of book seller (id "TS0001") gives (0 ∷ 0 ∷ 28 ∷ 0 ∷ 0 ∷ [])
    ∷ mark_of book seller (id "FPL01") gives (23 ∷ 0 ∷ 0 ∷ 0 ∷ 0 ∷ [])
    ∷ mark_of book stranger (id "TS0001") gives (23 ∷ 0 ∷ 0 ∷ 0 ∷ 0 ∷ [])
    ∷ mark_of book (take 15 seller) (id "ts0001") gives (23 ∷ 0 ∷ 0 ∷ 0 ∷ 0 ∷ [])
    ∷ mark_of (replicate 1024 0) seller (id "TS0001") gives (1 ∷ 0 ∷ 0 ∷ 0 ∷ 0 ∷ [])
    ∷ accepted_block book seller (id "TS0001") gives drop 1024 book
    ∷ accepted_block book buyer (id "TS0001") gives []
    ∷ final_value book seller buyer 4 gives kilowatts 45000
    ∷ final_value book seller buyer 5 gives refused 25
    ∷ final_value book seller buyer 0 gives refused 24
    ∷ final_value book nobody stranger 97 gives refused 24
    ∷ final_value book nobody stranger 5 gives refused 25
    ∷ final_value book nobody stranger 4 gives refused 26
    ∷ final_value book buyer seller 4 gives refused 26
    ∷ []

-- a missing seller's series counts 0
unfoldable pub of_buyer : Bytes → List Case
of_buyer book = final_value book seller buyer 2 gives kilowatts 0 ∷ []

pub buyers : wrong (once of_buyer (late (after (book_of 2) (head buyer 1 1 ++ purchase 1 (steady 45000))))) ≡ []
unfolding paper examples of_buyer
buyers = refl

-- ---- the walk over a message, and the listing's other texts

unfoldable pub of_message : Bytes → List Case
of_message message =
    series_numbered message 1 gives drop 512 message
    ∷ series_numbered message 2 gives []
    ∷ series_numbered message 0 gives []
    ∷ series_numbered (drop 512 message) 1 gives []
    ∷ []

pub walk : wrong (once of_message (head seller 1 1 ++ sale 1 (steady 45000))) ≡ []
unfolding paper examples of_message
walk = refl

unfoldable pub of_listing : List Case
of_listing =
    once listing (book_of 63) gives header
    -- 64 blocks, and a byte more
    ∷ listing (replicate 32768 1) gives text "not sound\n"
    ∷ listing (replicate 32769 1) gives text "too long\n"
    ∷ listing (replicate 1024 0) gives text "not sound\n"
    ∷ listing [] gives text "not sound\n"
    ∷ []

pub other_listings : wrong of_listing ≡ []
unfolding paper examples of_listing
other_listings = refl

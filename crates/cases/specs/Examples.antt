-- The parties, blocks, messages and books of the cases, built by name. The builders say the layout's table once more, apart from its readers.
use Rattle.std.specs.Prelude.{◌∷◌, ◌++◌, ◌+◌, ◌-◌, ◌*◌}
use Prim.Native.String.{String}
use Rattle.laws.specs.Base.{cond, [], ℕ, zero, suc, length, replicate}
use Rattle.laws.specs.Tests.{is, upto}
use Rattle.laws.specs.Bytes.{written, little}
use Rattle.paper.specs.Check.{sealed}
use Rattle.paper.specs.declared.Rule.{Rule}
use Rattle.paper.specs.Layout.{Bytes, Block, sellers_rule}
use Rattle.paper.specs.Opening.{Opening, opened}
use Rattle.paper.specs.Clock.{clock_moved}
use Rattle.paper.specs.Acceptance.{submitted}
use Rattle.paper.specs.Listing.{text}
use Rattle.cases.specs.Case.{once}

-- ---- codes

unfoldable pub area : Bytes
area = text "10YAT-APG------L"

unfoldable pub receiver : Bytes
receiver = text "14XAT-APCS-----Q"

unfoldable pub seller : Bytes
seller = text "14XBILANZGR-1--F"

unfoldable pub buyer : Bytes
buyer = text "14XBG-EMPFANG--0"

-- a third party, valid too
unfoldable pub stranger : Bytes
stranger = text "13XBILANZGR-2--Q"

-- sixteen characters that are no EIC
unfoldable pub nobody : Bytes
nobody = text "10XAT-APG------Y"

unfoldable pub day : Bytes
day = text "20190131"

-- an id with its zero bytes
unfoldable pub id : String → Bytes
id s = text s ++ replicate (16 - length (text s)) 0

-- ---- the blocks of a message, n 96

unfoldable pub head : (from : Bytes) (version count : ℕ) → Block
head from version count =
    sealed (1 ∷ 96 ∷ little 2 version ++ little 2 count ++ replicate 2 0 ++ id "PLAN" ++ from ++ receiver ++ day ++ replicate 448 0)

-- what a series has at position p, from 1
unfoldable pub steady : (kilowatts p : ℕ) → ℕ
steady kilowatts p = cond (upto p 96) kilowatts 0

unfoldable pub but_at : (position kilowatts : ℕ) (at : ℕ → ℕ) (p : ℕ) → ℕ
but_at position kilowatts at p = cond (is p position) kilowatts (at p)

-- the bytes of k quantities, the first at position p
unfoldable pub quantities_from : (p k : ℕ) (at : ℕ → ℕ) → Bytes
quantities_from p zero at = []
quantities_from p (suc k) at = little 4 (at p) ++ quantities_from (p + 1) k at

unfoldable pub series : (name : String) (version : ℕ) (in_party out_party : Bytes) (at : ℕ → ℕ) → Block
series name version in_party out_party at =
    sealed
    (2 ∷ 96 ∷ little 2 version
    ++ 2 ∷ 0 ∷ replicate 2 0
    ++ id name
    ++ area
    ++ area
    ++ in_party
    ++ out_party
    ++ replicate 20 0
    ++ quantities_from 1 100 at
    ++ replicate 4 0)

-- one trade, as each side files it
unfoldable pub sale : (version : ℕ) (at : ℕ → ℕ) → Block
sale version at = series "TS0001" version buyer seller at

unfoldable pub purchase : (version : ℕ) (at : ℕ → ℕ) → Block
purchase version at = series "FPL01" version buyer seller at

-- the other way round: the buyer sells, the seller files it
unfoldable pub buyback : (version : ℕ) (at : ℕ → ℕ) → Block
buyback version at = series "TS0002" version seller buyer at

-- ---- a field of a block written over, the check put right

unfoldable pub over : (offset : ℕ) → Bytes → Block → Block
over offset bytes b = sealed (written offset bytes b)

unfoldable pub with_n : ℕ → Block → Block
with_n n b = over 1 (n ∷ []) b

unfoldable pub with_version : ℕ → Block → Block
with_version v b = over 2 (little 2 v) b

unfoldable pub with_id : Bytes → Block → Block
with_id i b = over 8 i b

-- of a message's first block
unfoldable pub with_receiver : Bytes → Block → Block
with_receiver e h = over 40 e h

unfoldable pub with_day : Bytes → Block → Block
with_day d h = over 56 d h

-- of a series
unfoldable pub with_business_type : ℕ → Block → Block
with_business_type t y = over 4 (t ∷ []) y

unfoldable pub with_contract_type : ℕ → Block → Block
with_contract_type t y = over 5 (t ∷ []) y

unfoldable pub with_in_area : Bytes → Block → Block
with_in_area e y = over 24 e y

unfoldable pub with_out_area : Bytes → Block → Block
with_out_area e y = over 40 e y

unfoldable pub with_agreement : Bytes → Block → Block
with_agreement i y = over 88 i y

-- ---- books

unfoldable pub parameters_by : (rule : Rule) (lead : ℕ) → Opening
parameters_by rule lead = record { n = 96; lead = lead; rule = rule; day = day; area = area; receiver = receiver }

-- by the seller's rule, which is that of document 01
unfoldable pub parameters : (lead : ℕ) → Opening
parameters lead = parameters_by sellers_rule lead

-- opened, with lead 45
unfoldable pub book_of : (slots : ℕ) → Bytes
book_of slots = opened (replicate (512 + 512 * slots) 7) (parameters 45)

-- a minute of the day, as the day block keeps it
unfoldable pub minute : ℕ → ℕ
minute m = 10080 + m

-- the clock at 15: positions 1 to 4 closed
unfoldable pub late : Bytes → Bytes
late book = once (λ b. clock_moved b (minute 15)) book

unfoldable pub after : (book message : Bytes) → Bytes
after book message = once (λ b. once (λ m. submitted b m) message) book

-- the seller has filed 45,000 throughout
unfoldable pub sold : (slots : ℕ) → Bytes
sold slots = after (book_of slots) (head seller 1 1 ++ sale 1 (steady 45000))

-- then the buyer the same but 44,000 at position 2
unfoldable pub bought : (slots : ℕ) → Bytes
bought slots = after (sold slots) (head buyer 1 1 ++ purchase 1 (but_at 2 44000 (steady 45000)))

-- ---- to name it on an `unfolding` line opens all of these
unfoldable pub examples : ℕ
unfolding area receiver seller buyer stranger nobody day id head steady but_at quantities_from series sale purchase buyback over with_n with_version with_id with_receiver with_day with_business_type with_contract_type with_in_area with_out_area with_agreement parameters_by parameters book_of minute late after sold bought
examples = 0

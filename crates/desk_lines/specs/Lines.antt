-- The desk's answers as lines: accepted or refused, document 01's number, its reason code, where a rule is broken, what that means, and what was asked for.
use Rattle.std.specs.Prelude.{Bool, cond, [], ◌∷◌, ◌++◌, ℕ, zero, suc}
use Rattle.laws.specs.Tests.{is, less}
use Rattle.paper.specs.declared.DayState.{DayState}
use Rattle.paper.specs.declared.Rule.{Rule}
use Rattle.paper.specs.declared.Verdict.{Verdict}
use Rattle.paper.specs.declared.OpenAnswer.{OpenAnswer}
use Rattle.paper.specs.declared.ClockAnswer.{ClockAnswer}
use Rattle.paper.specs.declared.MarkAnswer.{MarkAnswer}
use Rattle.paper.specs.declared.FinalAnswer.{FinalAnswer}
use Rattle.paper.specs.declared.PlainRunAnswer.{PlainRunAnswer}
use Rattle.paper.specs.declared.QuantityRead.{QuantityRead}
use Rattle.paper.specs.Layout.{Bytes, Block, n_of, lesser_rule, same_rule, version, business_type, contract_type, agreement, id_of, in_area, out_area, in_party, out_party, differing, first, partner, quantities, entry}
use Rattle.paper.specs.Ids.{id_text}
use Rattle.paper.specs.Book.{with_capacity, is_external}
use Rattle.paper.specs.Codes.{reason_code, reply_to}
use Rattle.paper.specs.Marks.{state_of_mark, mark_code}
use Rattle.paper.specs.Listing.{text}
use Rattle.paper.specs.QuantityText.{quantity_text}
use Rattle.desk_text.specs.Numbers.{minute_text}
use Rattle.desk_text.specs.Pieces.{worded, named, code_text}
use Rattle.desk_text.specs.Replies.{reply_text}
use Rattle.desk_text.specs.Words.{meaning, state_meaning}
use Rattle.desk_faults.specs.Faults.{fault, opening_fault, verdict_fault}

-- ---- the parts of a line

-- accepted or refused, and the number
unfoldable pub status : (number : ℕ) → Bytes
status number = worded (cond (is number 0) (text "accepted ") (text "refused ")) number

-- nothing needs to be explained of an acceptance
unfoldable pub reason : (number : ℕ) → Bytes
reason number = cond (is number 0) [] (text ": " ++ meaning number)

-- a whole answer but for what was asked for and the newline: status, number and code, where a rule is broken, what that means
unfoldable pub answer_text : (number code series position : ℕ) → Bytes
answer_text number code series position =
    status number ++ code_text code ++ named (text " series ") series ++ named (text " position ") position ++ reason number

-- of a call that has no series and no position to tell
unfoldable pub answer_of : (number : ℕ) → Bytes
answer_of number = answer_text number (reason_code number) 0 0

-- a quantity in megawatts, as printing gives it
unfoldable pub megawatts : (kilowatts : ℕ) → Bytes
megawatts kilowatts = cond (less 9999999 kilowatts) [] (quantity_text kilowatts)

-- ---- the lines

-- x is the block of the message at which the rule is broken
unfoldable pub verdict_line : (v : Verdict) (x : Block) → Bytes
verdict_line v x =
    answer_text v.number v.code v.series v.position.0 ++ verdict_fault v x ++ reply_text (reply_to v.number) ++ text "\n"

-- by which rule a new book settles
unfoldable pub settling_text : (rule : Rule) → Bytes
settling_text rule = cond (same_rule rule lesser_rule) (text ": settles at the lesser of the two quantities\n") (text ": settles at the seller's quantity\n")

unfoldable pub open_line : (a : OpenAnswer) (rule : Rule) (area receiver : Bytes) → Bytes
open_line a rule area receiver = answer_of a.number ++ cond (is a.number 0) (settling_text rule) (opening_fault area receiver a.character ++ text "\n")

-- an answer, then what it tells if the call is accepted
unfoldable pub telling : (number : ℕ) (told : Bytes) → Bytes
telling number told = answer_of number ++ cond (is number 0) told (text "\n")

unfoldable pub day_text : (day : DayState) → Bytes
day_text day = worded (text ": n ") day.n ++ worded (text " lead ") day.lead ++ text " clock " ++ minute_text day.clock.0 ++ text "\n"

-- the state is told of a refused clock too, but on 1 there is none
unfoldable pub clock_line : (a : ClockAnswer) → Bytes
clock_line a = answer_of a.number ++ cond (is a.number 1) (text "\n") (day_text a.state)

-- what was done; the book is judged as one of the old layout, and 1 does not say that it is damaged
unfoldable pub conversion_line : (number : ℕ) → Bytes
conversion_line number =
    answer_of number ++ cond (is number 0) (text ": every mark and net is written by the plain rule\n") (text " in the old layout; where plain says yes it needs no conversion\n")

unfoldable pub enter_line : (number : ℕ) → Bytes
enter_line number = telling number (text ": the right is kept; its holder may send A03 series on it\n")

-- A28 or A09 where a mark has a code, and what its state means
unfoldable pub state_text : (differing partner : ℕ) → Bytes
state_text differing partner = code_text (mark_code differing partner) ++ text ", " ++ state_meaning (state_of_mark differing partner)

-- behind a word that leads to the count
unfoldable pub mark_text : (word : Bytes) (differing first partner : ℕ) → Bytes
mark_text word differing first partner =
    worded word differing ++ worded (text " first ") first ++ worded (text " partner ") partner ++ state_text differing partner

unfoldable pub mark_line : (a : MarkAnswer) → Bytes
mark_line a = telling a.number (mark_text (text ": differ ") a.differ a.first.0 a.partner.0 ++ text "\n")

-- by which rule a final value was chosen
unfoldable pub chosen_text : (rule : Rule) → Bytes
chosen_text rule = cond (same_rule rule lesser_rule) (text " MW, the lesser of the two\n") (text " MW, the seller's\n")

-- rule is the book's own
unfoldable pub final_line : (a : FinalAnswer) (rule : Rule) → Bytes
final_line a rule = telling a.number (text ": " ++ megawatts a.kilowatts ++ chosen_text rule)

unfoldable pub plain_text : (holds : Bool) → Bytes
plain_text holds = cond holds (text ": yes, every kept mark and net is true\n") (text ": no, a kept mark or net is not true\n")

unfoldable pub plain_line : (a : PlainRunAnswer) → Bytes
plain_line a = telling a.number (plain_text a.holds)

unfoldable pub quantity_line : (r : QuantityRead) → Bytes
quantity_line r = telling r.number (worded (text ": ") r.kilowatts ++ (text " kW, printed " ++ megawatts r.kilowatts) ++ text "\n")

-- character is the check's number of the code
unfoldable pub eic_line : (code : Bytes) (character : ℕ) → Bytes
eic_line code character = cond (is character 0) (text "yes, a valid EIC\n") (text "no, " ++ fault (text "the code") code character ++ text "\n")

-- the first k quantities, a space before each
unfoldable pub quantities_text : (q : Bytes) (k : ℕ) → Bytes
quantities_text q zero = []
quantities_text q (suc k) = quantities_text q k ++ (32 ∷ megawatts (entry q k))

-- id, version and parties
unfoldable pub name_text : (x : Block) → Bytes
name_text x = (text ": series " ++ id_text (id_of x)) ++ worded (text " version ") (version x) ++ (text " in " ++ in_party x) ++ (text " out " ++ out_party x)

-- the right that a series is sent on
unfoldable pub capacity_text : (x : Block) → Bytes
capacity_text x = cond (with_capacity x) (worded (text " contract ") (contract_type x) ++ (text " agreement " ++ id_text (agreement x))) []

-- what an external schedule has beside a trade (C-14)
unfoldable pub external_text : (x : Block) → Bytes
external_text x =
    cond (is_external x)
    (worded (text " type ") (business_type x) ++ (text " in-area " ++ in_area x) ++ (text " out-area " ++ out_area x) ++ capacity_text x)
    []

unfoldable pub series_text : (x : Block) → Bytes
series_text x = name_text x ++ external_text x ++ mark_text (text " differ ") (differing x) (first x) (partner x)

-- number is that of the mark's call, which tells an unsound book from an unknown series
unfoldable pub block_line : (number : ℕ) (x : Block) → Bytes
block_line number x = telling number (series_text x ++ (text "; MW" ++ quantities_text (quantities x) (n_of x)) ++ text "\n")

-- The line that answers each record of a stream, by its tag and its body, and the book after it (docs/REPLAY.md, "Records" and "Answers"). Where the
-- fields of a record do not fill its body nothing is told and the line is empty: the record is malformed.
pub mod Laws
use Rattle.std.specs.Borrow.{Bor}
use Rattle.std.specs.Prelude.{◌≡◌, Bool, true, false, Option, MatchOption, cond, List, [], ◌∷◌, ◌++◌, ℕ, zero, suc, ◌+◌, length, drop}
use Rattle.laws.specs.Tests.{◌and◌, ◌or◌, is, less}
use Rattle.laws.specs.Bytes.{number}
use Rattle.paper.specs.declared.OpenAnswer.{OpenAnswer}
use Rattle.paper.specs.declared.Rule.{Rule}
use Rattle.paper.specs.declared.ClockAnswer.{ClockAnswer}
use Rattle.paper.specs.declared.Verdict.{Verdict}
use Rattle.paper.specs.declared.SubmitAnswer.{SubmitAnswer}
use Rattle.paper.specs.declared.MarkAnswer.{MarkAnswer}
use Rattle.paper.specs.declared.FinalAnswer.{FinalAnswer}
use Rattle.paper.specs.declared.SettledAnswer.{SettledAnswer}
use Rattle.paper.specs.declared.PlainRunAnswer.{PlainRunAnswer}
use Rattle.paper.specs.declared.QuantityRead.{QuantityRead}
use Rattle.paper.specs.declared.QuantityPrinted.{QuantityPrinted}
use Rattle.paper.specs.Layout.{Bytes, Block, lesser_rule}
use Rattle.paper.specs.Check.{check_from, check_of, check_right, sealed}
use Rattle.paper.specs.Eic.{eic_number}
use Rattle.paper.specs.Ids.{id_well_formed}
use Rattle.paper.specs.Codes.{reason_code}
use Rattle.paper.specs.QuantityText.{quantity_read, quantity_printed, printed_into}
use Rattle.paper.specs.Message.{series_numbered}
use Rattle.paper.specs.Sound.{sound}
use Rattle.paper.specs.Rules.{verdict}
use Rattle.paper.specs.Acceptance.{submitted}
use Rattle.paper.specs.Looks.{submit_answer}
use Rattle.paper.specs.Opening.{Opening, open_answer, opened}
use Rattle.paper.specs.Clock.{clock_answer, clock_moved}
use Rattle.paper.specs.Conversion.{conversion_number, converted}
use Rattle.paper.specs.Rights.{enter_number, entered}
use Rattle.paper.specs.Readings.{mark_answer, accepted_block}
use Rattle.paper.specs.Finals.{final}
use Rattle.paper.specs.Settled.{settled}
use Rattle.paper.specs.PlainRun.{plain_run}
use Rattle.paper.specs.Listing.{listing}
use Rattle.reader.specs.Walk.{readable, series_at}
use Rattle.stream.specs.Fields.{rest_from, name_at, name_end}
use Rattle.stream.specs.Line.{answer_line, word_of, told_line}
use Rattle.stream.specs.Buffer.{buffer_numbers}

-- ---- which numbers of an answer its line tells, in their order

abbrev pub yes_or_no : Bool → ℕ
yes_or_no b = cond b 1 0

unfoldable pub open_told : OpenAnswer → List ℕ
open_told a = a.number ∷ a.character ∷ []

unfoldable pub clock_told : ClockAnswer → List ℕ
clock_told a = a.number ∷ a.state.n ∷ a.state.lead ∷ a.state.clock.0 ∷ []

unfoldable pub verdict_told : Verdict → List ℕ
verdict_told v = v.number ∷ v.code ∷ v.series ∷ v.position.0 ∷ v.character ∷ []

-- behind the numbers that `judge` tells, how many slots were looked at
unfoldable pub submit_told : SubmitAnswer → List ℕ
submit_told a = verdict_told a.verdict ++ a.looked ∷ []

unfoldable pub mark_told : MarkAnswer → List ℕ
mark_told m = m.number ∷ m.differ ∷ m.first.0 ∷ m.partner.0 ∷ []

unfoldable pub final_told : FinalAnswer → List ℕ
final_told f = f.number ∷ f.kilowatts ∷ []

unfoldable pub settled_told : SettledAnswer → List ℕ
settled_told s = s.number ∷ s.bought ∷ s.sold ∷ []

unfoldable pub plain_told : PlainRunAnswer → List ℕ
plain_told p = p.number ∷ yes_or_no p.holds ∷ []

unfoldable pub read_told : QuantityRead → List ℕ
read_told r = r.number ∷ r.kilowatts ∷ []

unfoldable pub print_told : QuantityPrinted → List ℕ
print_told p = p.number ∷ p.length ∷ []

-- ---- names in a body

unfoldable pub first_name : (body : Bytes) → Bytes
first_name body = name_at body 0

unfoldable pub second_name : (body : Bytes) → Bytes
second_name body = name_at body (name_end body 0)

unfoldable pub behind_two : (body : Bytes) → ℕ
behind_two body = name_end body (name_end body 0)

-- a sender and a series id, and nothing behind them
unfoldable pub two_names : (body : Bytes) → Bool
two_names body = is (behind_two body) (length body)

-- these two, or that no two names fill the body
abbrev pub TwoNames : (body : Bytes) → Option (Bor Bytes × Bor Bytes) → Type 0
TwoNames body r =
    MatchOption r (two_names body ≡ false) (λ p. (two_names body ≡ true) × (p.0.now ≡ first_name body) × (p.1.now ≡ second_name body))

-- ---- calls that need neither a book nor a message

unfoldable pub leaf_numbers : (tag : ℕ) (body : Bytes) → List ℕ
leaf_numbers tag body =
    cond (is tag 16) (eic_number body ∷ [])
    (cond (is tag 17) (yes_or_no (id_well_formed body) ∷ [])
    (cond (is tag 18) (read_told (quantity_read body))
    (cond (is tag 20) (check_of body ∷ yes_or_no (check_right body) ∷ [])
    (reason_code (number 1 0 body) ∷ []))))

-- ---- calls that read a book, and the walk over a message

unfoldable pub mark_numbers : (book body : Bytes) → List ℕ
mark_numbers book body = cond (two_names body) (mark_told (mark_answer book (first_name body) (second_name body))) []

-- out party, in party, and two bytes of position
unfoldable pub final_numbers : (book body : Bytes) → List ℕ
final_numbers book body =
    cond (is (length (rest_from body (behind_two body))) 2)
    (final_told (final book (first_name body) (second_name body) (number 2 (behind_two body) body)))
    []

-- a party, and two bytes of position
unfoldable pub settled_numbers : (book body : Bytes) → List ℕ
settled_numbers book body =
    cond (is (length (rest_from body (name_end body 0))) 2)
    (settled_told (settled book (first_name body) (number 2 (name_end body 0) body)))
    []

-- how many series a reader hands out up to its first empty part, and the sum over their bytes one after the other; `left` more may be asked for, where
-- `count` are passed and `sum` is theirs
unfoldable pub walk_on : (left : ℕ) (message : Bytes) (count sum : ℕ) → List ℕ
walk_on zero message count sum = count ∷ sum ∷ []
walk_on (suc left) message count sum =
    cond (is (length (series_at message (count + 1))) 0)
    (count ∷ sum ∷ [])
    (walk_on left message (count + 1) (check_from sum (series_at message (count + 1))))

-- no message has more than 200 series
unfoldable pub walk_numbers : (message : Bytes) → List ℕ
walk_numbers message = walk_on 200 (readable message) 0 0

unfoldable pub reading_numbers : (tag : ℕ) (book body : Bytes) → List ℕ
reading_numbers tag book body =
    cond (is tag 8) (mark_numbers book body)
    (cond (is tag 10) (final_numbers book body)
    (cond (is tag 11) (plain_told (plain_run book))
    (cond (is tag 13) (walk_numbers body)
    (cond (is tag 27) (settled_numbers book body)
    (yes_or_no (sound book) ∷ [])))))

-- ---- calls that may change the book

-- one byte of n, two of lead and, of `open_by`, one of the rule; then, from a place on, the names of day, area and receiver
unfoldable pub opening_of : (rule : Rule) (names : ℕ) (body : Bytes) → Opening
opening_of rule names body =
    record {
      n = number 1 0 body;
      lead = number 2 1 body;
      rule = rule;
      day = name_at body names;
      area = name_at body (name_end body names);
      receiver = name_at body (name_end body (name_end body names));
    }

unfoldable pub three_names : (names : ℕ) (body : Bytes) → Bool
three_names names body = is (name_end body (name_end body (name_end body names))) (length body)

unfoldable pub open_numbers : (rule : Rule) (names : ℕ) (book body : Bytes) → List ℕ
open_numbers rule names book body = cond (three_names names body) (open_told (open_answer book (opening_of rule names body))) []

unfoldable pub open_after : (rule : Rule) (names : ℕ) (book body : Bytes) → Bytes
open_after rule names book body = cond (three_names names body) (opened book (opening_of rule names body)) book

-- the rule that a body of `open_by` names
unfoldable pub rule_named : (body : Bytes) → Rule
rule_named body = record { 0 = number 1 3 body }

unfoldable pub day_numbers : (tag : ℕ) (book body : Bytes) → List ℕ
day_numbers tag book body =
    cond (is tag 5) (open_numbers lesser_rule 3 book body)
    (cond (is tag 6) (clock_told (clock_answer book (number 2 0 body)))
    (cond (is tag 7) (submit_told (submit_answer book body))
    (cond (is tag 24) (open_numbers (rule_named body) 4 book body)
    (cond (is tag 25) (conversion_number book ∷ [])
    (enter_number book body ∷ [])))))

unfoldable pub day_after : (tag : ℕ) (book body : Bytes) → Bytes
day_after tag book body =
    cond (is tag 5) (open_after lesser_rule 3 book body)
    (cond (is tag 6) (clock_moved book (number 2 0 body))
    (cond (is tag 7) (submitted book body)
    (cond (is tag 24) (open_after (rule_named body) 4 book body)
    (cond (is tag 25) (converted book)
    (entered book body)))))

-- ---- calls whose lines show bytes

unfoldable pub shown_block : (tag : ℕ) (block : Block) → Bytes
shown_block tag block = answer_line (word_of tag) (length block ∷ []) block

unfoldable pub block_line : (book body : Bytes) → Bytes
block_line book body = cond (two_names body) (shown_block 9 (accepted_block book (first_name body) (second_name body))) []

-- two bytes of the series' number, then the message
unfoldable pub reader_line : (body : Bytes) → Bytes
reader_line body = shown_block 12 (series_numbered (rest_from body 2) (number 2 0 body))

unfoldable pub listing_line : (book : Bytes) → Bytes
listing_line book = answer_line (word_of 14) [] (listing book)

-- four bytes of quantity, then the buffer to print into
unfoldable pub print_line : (body : Bytes) → Bytes
print_line body =
    cond (less (length body) 4)
    []
    (answer_line (word_of 19) (print_told (quantity_printed (number 4 0 body) (length (drop 4 body)))) (printed_into (number 4 0 body) (drop 4 body)))

unfoldable pub seal_line : (block : Bytes) → Bytes
seal_line block = answer_line (word_of 21) [] (sealed block)

-- ---- every record whose line is made of a book and a body: tags 3 to 27; tags 1 and 2, `length` and `bytes`, are not asked of it (stream, specs/Buffer)

-- tags 5 to 7 and 24 to 26: open, clock, submit, open_by, convert and right may change the book
unfoldable pub may_change : (tag : ℕ) → Bool
may_change tag = less tag 8 or (less 23 tag and less tag 27)

-- of the others those below 16, and 27: they read it
unfoldable pub reads : (tag : ℕ) → Bool
reads tag = less tag 16 or less 26 tag

-- tag 23, `judge`, is told what a submission would be
unfoldable pub numbers_told : (tag : ℕ) (book body : Bytes) → List ℕ
numbers_told tag book body =
    cond (less tag 5) (buffer_numbers tag book)
    (cond (may_change tag) (day_numbers tag book body)
    (cond (reads tag) (reading_numbers tag book body)
    (cond (is tag 23) (verdict_told (verdict book body))
    (leaf_numbers tag body))))

unfoldable pub line_of : (tag : ℕ) (book body : Bytes) → Bytes
line_of tag book body =
    cond (is tag 9) (block_line book body)
    (cond (is tag 12) (reader_line body)
    (cond (is tag 14) (listing_line book)
    (cond (is tag 19) (print_line body)
    (cond (is tag 21) (seal_line body)
    (told_line tag (numbers_told tag book body))))))

-- the book after it
unfoldable pub book_after : (tag : ℕ) (book body : Bytes) → Bytes
book_after tag book body = cond (less tag 5) book (cond (may_change tag) (day_after tag book body) book)

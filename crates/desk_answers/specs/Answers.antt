-- What each command answers, and what it leaves of the book. A command's words are counted from its own name, 0; word 1 is the command.
use Rattle.std.specs.Prelude.{◌≡◌, Bool, cond, [], ℕ, ◌+◌, length, get_or}
use Rattle.laws.specs.Tests.{◌or◌}
use Rattle.laws.specs.Lists.{same}
use Rattle.paper.specs.declared.Rule.{Rule}
use Rattle.paper.specs.declared.Verdict.{Verdict}
use Rattle.paper.specs.Layout.{Bytes, blocks, rule_of, sellers_rule, lesser_rule}
use Rattle.paper.specs.Book.{day_block}
use Rattle.paper.specs.Eic.{eic_number}
use Rattle.paper.specs.QuantityText.{quantity_read}
use Rattle.paper.specs.Rules.{verdict}
use Rattle.paper.specs.Acceptance.{submitted}
use Rattle.paper.specs.Opening.{Opening, open_answer, opened}
use Rattle.paper.specs.Clock.{clock_answer, clock_moved}
use Rattle.paper.specs.Conversion.{conversion_number, converted}
use Rattle.paper.specs.Rights.{enter_number, entered}
use Rattle.paper.specs.Readings.{mark_answer, accepted_block}
use Rattle.paper.specs.Finals.{final}
use Rattle.paper.specs.PlainRun.{plain_run}
use Rattle.paper.specs.Listing.{text, listing}
use Rattle.listing_text.specs.Text.{text_length, text_into}
use Rattle.desk_text.specs.Put.{Put}
use Rattle.desk_text.specs.Words.{word_numbered}
use Rattle.desk_text.specs.Arguments.{id_field, byte_value, word_value}
use Rattle.desk_lines.specs.Lines.{verdict_line, open_line, clock_line, conversion_line, enter_line, mark_line, block_line, final_line, plain_line, eic_line, quantity_line}
use Rattle.settlement_text.specs.Settlement.{settlement_text}
use Rattle.desk_answers.specs.declared.Told.{Told}
use Rattle.desk_answers.specs.declared.Numbers.{Numbers}
use Rattle.desk_answers.specs.declared.Change.{Change}
use Rattle.desk_answers.specs.declared.Change.TheVariants.{Open, Clock, Submit, Convert, Enter}
use Rattle.desk_answers.specs.declared.Question.{Question}
use Rattle.desk_answers.specs.declared.Question.TheVariants.{Mark, Block, Final, Settle, Plain, List, Eic, Kw}

-- the answer has this number; its line, in a buffer that was x and is y, is this text
pub record Tells (number : ℕ) (said : Bytes) (r : Told) (x y : Bytes) : Type 0 where
  pub answer : r.number ≡ number
  pub line : Put 0 said r.length x y

-- ---- what changes a book

-- behind the words of the parameters an opening may have one that names the rule, seller or lesser
unfoldable pub names_rule : (word : Bytes) → Bool
names_rule word = same word (text "seller") or same word (text "lesser")

-- the lesser rule where no word names one
unfoldable pub rule_named : (words : Bytes) → Rule
rule_named words = cond (same (word_numbered 9 words) (text "seller")) sellers_rule lesser_rule

-- the place of the word replace: behind the one that names the rule, or where that would stand
unfoldable pub replace_place : (words : Bytes) → ℕ
replace_place words = cond (names_rule (word_numbered 9 words)) 10 9

unfoldable pub replaces : (words : Bytes) → Bool
replaces words = same (word_numbered (replace_place words) words) (text "replace")

-- how many words an opening has, the program's name and the command among them
unfoldable pub opening_words : (words : Bytes) → ℕ
opening_words words = cond (replaces words) (replace_place words + 1) (replace_place words)

-- the parameters of an opening: two numbers, words 6 to 8, and the rule
unfoldable pub opening : (numbers : Numbers) (words : Bytes) → Opening
opening numbers words =
    record {
      n = byte_value numbers.n;
      lead = word_value numbers.lead;
      rule = rule_named words;
      day = word_numbered 6 words;
      area = word_numbered 7 words;
      receiver = word_numbered 8 words;
    }

-- the block of a message at which a rule is broken: block 0 is the sender's, block k series k
unfoldable pub block_named : (message : Bytes) (v : Verdict) → Bytes
block_named message v = get_or (blocks message) v.series []

unfoldable pub change_number : (what : Change) (book given : Bytes) → ℕ
change_number (Open numbers) book words = (open_answer book (opening numbers words)).number
change_number (Clock minute) book given = (clock_answer book minute.0).number
change_number Submit book message = (verdict book message).number
change_number Convert book given = conversion_number book
change_number Enter book right = enter_number book right

unfoldable pub change_line : (what : Change) (book given : Bytes) → Bytes
change_line (Open numbers) book words = open_line (open_answer book (opening numbers words)) (rule_named words) (word_numbered 7 words) (word_numbered 8 words)
change_line (Clock minute) book given = clock_line (clock_answer book minute.0)
change_line Submit book message = verdict_line (verdict book message) (block_named message (verdict book message))
change_line Convert book given = conversion_line (conversion_number book)
change_line Enter book right = enter_line (enter_number book right)

unfoldable pub changed : (what : Change) (book given : Bytes) → Bytes
changed (Open numbers) book words = opened book (opening numbers words)
changed (Clock minute) book given = clock_moved book minute.0
changed Submit book message = submitted book message
changed Convert book given = converted book
changed Enter book right = entered book right

-- ---- what is asked

unfoldable pub line_of : (question : Question) (book words : Bytes) → Bytes
line_of Mark book words = mark_line (mark_answer book (word_numbered 3 words) (id_field (word_numbered 4 words)))
line_of Block book words =
    block_line (mark_answer book (word_numbered 3 words) (id_field (word_numbered 4 words))).number (accepted_block book (word_numbered 3 words) (id_field (word_numbered 4 words)))
line_of (Final position) book words = final_line (final book (word_numbered 3 words) (word_numbered 4 words) position) (rule_of (day_block book))
line_of (Settle position) book words = settlement_text book position
line_of Plain book words = plain_line (plain_run book)
line_of List book words = listing book
line_of Eic book words = eic_line (word_numbered 2 words) (eic_number (word_numbered 2 words))
line_of Kw book words = quantity_line (quantity_read (word_numbered 2 words))

-- the buffer was x and is y, r bytes of which are the answer; a listing that has no room leaves it as it was
unfoldable pub Answered : (question : Question) (book words : Bytes) (r : ℕ) (x y : Bytes) → Type 0
Answered List book words r x y = (r ≡ text_length (listing book) (length x)) × (y ≡ text_into (listing book) x)
Answered Mark book words r x y = Put 0 (line_of Mark book words) r x y
Answered Block book words r x y = Put 0 (line_of Block book words) r x y
Answered (Final position) book words r x y = Put 0 (line_of (Final position) book words) r x y
Answered (Settle position) book words r x y = Put 0 (line_of (Settle position) book words) r x y
Answered Plain book words r x y = Put 0 (line_of Plain book words) r x y
Answered Eic book words r x y = Put 0 (line_of Eic book words) r x y
Answered Kw book words r x y = Put 0 (line_of Kw book words) r x y

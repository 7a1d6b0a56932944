-- Demand 3, as each call keeps it or reads it. `book` is a book that was opened or converted and that only these calls have altered; `messages` are those accepted since
-- then, oldest first, behind those that the conversion found kept. A contract that cites these words is read alone: what one call leaves is what the next one takes up.
use Rattle.std.specs.Prelude.{◌≡◌, true, cond, List, [], ◌∷◌, ◌++◌, ℕ}
use Rattle.std.proofs.Math.Option.{none, some, map, get_or}
use Rattle.laws.specs.Tests.{is}
use Rattle.laws.specs.Lists.{find, nth}
use Rattle.paper.specs.declared.MarkAnswer.{MarkAnswer}
use Rattle.paper.specs.declared.FinalAnswer.{FinalAnswer}
use Rattle.paper.specs.declared.PlainRunAnswer.{PlainRunAnswer}
use Rattle.paper.specs.Layout.{Bytes, Block, area, nets, pair}
use Rattle.paper.specs.Book.{day_block, used, is_sender_block_of, trade, slot_of, is_series_with, is_trade_of}
use Rattle.paper.specs.Finals.{final}
use Rattle.paper.specs.Readings.{mark_answer}
use Rattle.paper.specs.Conversion.{kept_messages}
use Rattle.paper.specs.PlainRule.{other_party, plain_nets}
use Rattle.promises.specs.Laws.Invariant.{Invariant}
use Rattle.promises.specs.Words.{content, final_given, plain_content, plain_stored_as, plain_mark_answer, plain_final}

-- the slot that a mark names, of the series x that e last sent under an id: it holds the trade of the other party with the same pair; where there is none, as for
-- an external schedule, it is 0, which no slot is
unfoldable pub Partner : (book : Bytes) (messages : List Bytes) (e : Bytes) (id : Bytes) (slot : ℕ) → Type 0
Partner book messages e id slot =
    (x : Block) → plain_stored_as messages e id ≡ some x
    → nth (used book) slot ≡ find (is_trade_of (slot_of (used book) (other_party e (pair x))) (trade x)) (used book)

-- the series kept under each sender and key are those of its latest message, sender's slot, mark and check apart; marks and nets are what the plain rule gives on the
-- messages. The slot that a mark names is told the rule: by `partners` a series whose counterpart agrees is told from one that stands alone. `invariant` is what makes
-- all this hold after the next call
pub record Demand3 (book : Bytes) (messages : List Bytes) : Type 0 where
  pub series : (e key : Bytes) → map content (find (is_series_with (slot_of (used book) e) key) (used book)) ≡ plain_content messages e key
  pub marks : (e id : Bytes) → mark_answer book e id ≡ plain_mark_answer messages e id (mark_answer book e id).partner.0
  pub partners : (e id : Bytes) → Partner book messages e id (mark_answer book e id).partner.0
  pub senders_nets : (e : Bytes) → map nets (find (is_sender_block_of e) (used book)) ≡ plain_nets (area (day_block book)) messages e
  pub invariant : Invariant book messages

-- a final value once given is given unchanged
unfoldable pub FinalsStay : (before : Bytes) (after : Bytes) → Type 0
FinalsStay before after = (seller buyer : Bytes) (position kilowatts : ℕ) → final before seller buyer position ≡ final_given kilowatts
    → final after seller buyer position ≡ final_given kilowatts

-- ---- calls that write

-- an opening that is accepted begins with no message, whatever the buffer held; a refused one leaves all as it was
unfoldable pub OpeningKeeps : (before : Bytes) (number : ℕ) (after : Bytes) → Type 0
OpeningKeeps before number after = (number ≡ 0 → Demand3 after []) × ((number ≡ 0 → ⊥) → after ≡ before)

-- a conversion that is accepted begins with one message for each sender, made of the blocks then kept, whatever marks and nets said before; a refused one leaves all as
-- it was; finals that the book gave before stay
unfoldable pub ConversionKeeps : (before : Bytes) (number : ℕ) (after : Bytes) → Type 0
ConversionKeeps before number after =
    (number ≡ 0 → Demand3 after (kept_messages (used after))) × ((number ≡ 0 → ⊥) → after ≡ before) × FinalsStay before after

-- a clock move, accepted or not, is no message
unfoldable pub ClockKeeps : (before : Bytes) (after : Bytes) → Type 0
ClockKeeps before after = (messages : List Bytes) → Demand3 before messages → Demand3 after messages × FinalsStay before after

-- a right that is entered, or refused, is no message
unfoldable pub EnteringKeeps : (before : Bytes) (after : Bytes) → Type 0
EnteringKeeps before after = (messages : List Bytes) → Demand3 before messages → Demand3 after messages × FinalsStay before after

-- a submitted message is one more of the accepted ones exactly where its number is 0
unfoldable pub SubmissionKeeps : (before : Bytes) (message : Bytes) (number : ℕ) (after : Bytes) → Type 0
SubmissionKeeps before message number after =
    (messages : List Bytes) → Demand3 before messages → Demand3 after (cond (is number 0) (messages ++ message ∷ []) messages) × FinalsStay before after

-- ---- calls that read: e is the sender

-- the mark is the plain rule's, and the slot that it names is the counterpart's
unfoldable pub MarkByMessages : (book : Bytes) (e : Bytes) (id : Bytes) (answer : MarkAnswer) → Type 0
MarkByMessages book e id answer =
    (messages : List Bytes) → Demand3 book messages → (answer ≡ plain_mark_answer messages e id answer.partner.0) × Partner book messages e id answer.partner.0

-- the block is the one that the sender's latest message has, sender's slot, mark and check apart; there is none where that has none
unfoldable pub BlockByMessages : (book : Bytes) (e : Bytes) (id : Bytes) (block : Bytes) → Type 0
BlockByMessages book e id block =
    (messages : List Bytes) → Demand3 book messages → (content block ≡ content (get_or (plain_stored_as messages e id) []))
    × (plain_stored_as messages e id ≡ none → block ≡ [])

-- the final is worked out from what each party last sent
unfoldable pub FinalByMessages : (book : Bytes) (seller : Bytes) (buyer : Bytes) (position : ℕ) (answer : FinalAnswer) → Type 0
FinalByMessages book seller buyer position answer = (messages : List Bytes) → Demand3 book messages → answer ≡ plain_final (day_block book) messages seller buyer position

-- the plain run says yes
unfoldable pub PlainRunSaysYes : (book : Bytes) (answer : PlainRunAnswer) → Type 0
PlainRunSaysYes book answer = (messages : List Bytes) → Demand3 book messages → answer ≡ record { number = 0; holds = true }

-- The words of the promises that are not the paper's: what is kept of a block, the call that a desk begins with, the desk after some calls, calls that do not open the
-- book again, what keeps finals, the readings in terms of the accepted messages, and a promise that determines what it promises.
use Rattle.std.specs.Prelude.{◌≡◌, ◌∷◌, ◌++◌, ◌+◌, ◌-◌, ◌≤◌, ◌<◌}
use Rattle.laws.specs.Base.{Bool, true, cond, Option, none, some, option_map, List, [], ℕ}
use Rattle.laws.specs.Tests.{◌and◌, ◌or◌, neg, is, less}
use Rattle.laws.specs.Lists.{same, find, has}
use Rattle.laws.specs.Bytes.{part, number}
use Rattle.paper.specs.declared.MarkAnswer.{MarkAnswer}
use Rattle.paper.specs.declared.FinalAnswer.{FinalAnswer}
use Rattle.paper.specs.Layout.{Bytes, Block, n_of, lead, clock_plus_10080, rule_of}
use Rattle.paper.specs.Book.{day_block, used, id_is, key_is, trade, slot_of, is_series_of}
use Rattle.paper.specs.Message.{head_of}
use Rattle.paper.specs.Rules.{number_of, closed, verdict}
use Rattle.paper.specs.Marks.{is_counterpart}
use Rattle.paper.specs.Finals.{final_of, held, is_held, held_at, final_refused}
use Rattle.paper.specs.Readings.{mark_given, mark_refused}
use Rattle.paper.specs.Opening.{open_number}
use Rattle.paper.specs.Conversion.{conversion_number}
use Rattle.paper.specs.PlainRule.{latest, series_of_latest, plain_held, plain_mark}
use Rattle.paper.specs.Calls.{Call, Desk, step, run, opening, clock_move, submission, entering, conversion, reading}

-- the bytes of a series but sender's slot, mark and check
unfoldable pub content : Block → Bytes
content x = part 0 6 x ++ part 8 96 x ++ part 108 400 x

-- c is the content of the series x
unfoldable pub content_is : Bytes → Block → Bool
content_is c x = same (content x) c

-- two lists of series have the same contents, in whatever order: any bytes c are the content of a series in own exactly if they are that of one in other
abbrev pub SameContents : List Block → List Block → Type 0
SameContents own other = (c : Bytes) → has (content_is c) own ≡ has (content_is c) other

-- two lists of rights have the same blocks, in whatever order
abbrev pub SameRights : List Block → List Block → Type 0
SameRights own other = (r : Block) → has (same r) own ≡ has (same r) other

-- the bytes of a sender block but nets and check
unfoldable pub head_content : Block → Bytes
head_content s = part 0 108 s

-- y has the bytes of x but those of mark and check
pub record ButMark (x y : Block) : Type 0 where
  pub before_mark : (o n : ℕ) → o + n ≤ 104 → part o n y ≡ part o n x
  pub after_mark : (o n : ℕ) → 108 ≤ o → o + n ≤ 508 → part o n y ≡ part o n x

-- the call that a desk begins with, on whatever bytes: an accepted opening, or an accepted conversion
abbrev pub Starts : Bytes → Call → Type 0
Starts buffer (opening o) = open_number buffer o ≡ 0
Starts buffer conversion = conversion_number buffer ≡ 0
Starts buffer (clock_move minute) = ⊥
Starts buffer (submission m) = ⊥
Starts buffer (entering block) = ⊥
Starts buffer reading = ⊥

-- the desk after it: with no message after an opening, with those kept after a conversion
abbrev pub begun : Bytes → Call → Desk
begun buffer start = step (record { book = buffer; messages = [] }) start

-- and after further calls
abbrev pub reached : Bytes → Call → List Call → Desk
reached buffer start calls = run (begun buffer start) calls

-- the call c on the desk k is no accepted opening: a refused one is allowed, and any conversion
abbrev pub NotOpened : Desk → Call → Type 0
NotOpened k (opening o) = open_number k.book o ≡ 0 → ⊥
NotOpened k (clock_move minute) = Unit {0}
NotOpened k (submission m) = Unit {0}
NotOpened k (entering block) = Unit {0}
NotOpened k conversion = Unit {0}
NotOpened k reading = Unit {0}

-- none of the calls is, each judged on the desk as it then is
abbrev pub Unopened : Desk → List Call → Type 0
Unopened k [] = Unit {0}
Unopened k (c ∷ cs) = NotOpened k c × Unopened (step k c) cs

-- the messages accepted since the desk last began, oldest first, after the submission of one more: it is among them exactly where it is answered 0
unfoldable pub messages_after : (book : Bytes) (message : Bytes) (messages : List Bytes) → List Bytes
messages_after book message messages = cond (is (number_of (verdict book message)) 0) (messages ++ message ∷ []) messages

abbrev pub final_given : ℕ → FinalAnswer
final_given kilowatts = record { number = 0; kilowatts = kilowatts }

-- What keeps finals from a book to a later one: n, lead and rule stay, the clock does not fall, a pair once held stays held, and its quantities at the positions that were
-- closed, here k + 1, stay
pub record Later (before after : Bytes) : Type 0 where
  pub n : n_of (day_block after) ≡ n_of (day_block before)
  pub leads : lead (day_block after) ≡ lead (day_block before)
  pub rules : rule_of (day_block after) ≡ rule_of (day_block before)
  pub clocks : clock_plus_10080 (day_block before) ≤ clock_plus_10080 (day_block after)
  pub kept : (e p : Bytes) → is_held (held (used before) e p) ≡ true → is_held (held (used after) e p) ≡ true
  pub values : (e p : Bytes) (k : ℕ) → k < 100 → closed (day_block before) (k + 1) ≡ true → held_at (held (used after) e p) k ≡ held_at (held (used before) e p) k

-- the bytes of the series that sender e last sent under a key, sender's slot, mark and check apart; of the first block of its latest message, nets and check apart
unfoldable pub plain_content : List Bytes → Bytes → Bytes → Option Bytes
plain_content ms e k = option_map content (find (key_is k) (series_of_latest (latest e ms)))

unfoldable pub plain_head_content : List Bytes → Bytes → Option Bytes
plain_head_content ms e = option_map (λ m. head_content (head_of m)) (latest e ms)

-- the series with an id that sender e last sent
unfoldable pub plain_stored_as : (messages : List Bytes) (e : Bytes) (id : Bytes) → Option Block
plain_stored_as messages e id = find (id_is id) (series_of_latest (latest e messages))

-- the answer to who asks for a mark, from the mark's bytes
unfoldable pub mark_told : (mark : Bytes) → MarkAnswer
mark_told mark = mark_given (number 1 0 mark) (number 1 1 mark) (number 2 2 mark)

-- the plain rule's mark of a series y that sender e last sent, its counterpart standing in a slot
unfoldable pub plain_mark_found : (messages : List Bytes) (e : Bytes) (slot : ℕ) (found : Option Block) → MarkAnswer
plain_mark_found messages e slot none = mark_refused 23
plain_mark_found messages e slot (some y) = mark_told (plain_mark messages e (trade y) slot)

unfoldable pub plain_mark_answer : (messages : List Bytes) (e : Bytes) (id : Bytes) (slot : ℕ) → MarkAnswer
plain_mark_answer messages e id slot = plain_mark_found messages e slot (plain_stored_as messages e id)

-- a final value by what each party last sent, in place of what the book holds
unfoldable pub plain_final : (day : Block) (messages : List Bytes) (seller : Bytes) (buyer : Bytes) (position : ℕ) → FinalAnswer
plain_final day messages seller buyer position =
    cond (is position 0 or less (n_of day) position) (final_refused 24)
    (cond (neg (closed day position)) (final_refused 25)
    (cond (neg (is_held (plain_held messages seller (buyer ++ seller)) or is_held (plain_held messages buyer (buyer ++ seller)))) (final_refused 26)
    (final_given
    (final_of (rule_of day) (held_at (plain_held messages seller (buyer ++ seller)) (position - 1)) (held_at (plain_held messages buyer (buyer ++ seller)) (position - 1))))))

-- x is the counterpart of a series of the sender e, among the used slots us
unfoldable pub is_counterpart_of : List Block → Bytes → Block → Bool
is_counterpart_of us e x = has (λ z. is_series_of (slot_of us e) z and is_counterpart (slot_of us e) (trade z) x) us

-- a promise P on inputs, answer and lent bytes allows one outcome
abbrev pub Determines : {I A : Type 0} → (I → A → Bytes → Type 0) → Type 0
Determines {I} {A} P = (i : I) (a b : A) (x y : Bytes) → P i a x → P i b y → (a ≡ b) × (x ≡ y)

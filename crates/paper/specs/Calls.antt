-- Demand 3: any sequence of calls on one buffer, and the list of the messages accepted since it last began: with an opening, or with a conversion
-- and the messages that it found kept.
use Rattle.std.specs.Prelude.{cond, List, [], ◌∷◌, ◌++◌, ℕ}
use Rattle.laws.specs.Tests.{is}
use Rattle.paper.specs.Layout.{Bytes}
use Rattle.paper.specs.Rules.{number_of, verdict}
use Rattle.paper.specs.Book.{used}
use Rattle.paper.specs.Acceptance.{submitted}
use Rattle.paper.specs.Rights.{entered}
use Rattle.paper.specs.Opening.{Opening, open_number, opened}
use Rattle.paper.specs.Clock.{clock_moved}
use Rattle.paper.specs.Conversion.{conversion_number, converted, kept_messages}

-- mark, accepted block, final, plain run and the sound book's test alter nothing: they are one call here, reading
pub data Call : Type 0 where
  opening : Opening → Call
  clock_move : ℕ → Call
  submission : Bytes → Call
  entering : Bytes → Call
  conversion : Call
  reading : Call

pub record Desk : Type 0 where
  pub book : Bytes
  pub messages : List Bytes

-- one call: an accepted opening begins the list anew, and so does an accepted conversion, "the series then kept standing as its senders' latest
-- messages"; an accepted message is added to it
unfoldable pub step : (before : Desk) (call : Call) → Desk
step before (opening o) = record { book = opened before.book o; messages = cond (is (open_number before.book o) 0) [] before.messages }
step before (clock_move minute) = record { book = clock_moved before.book minute; messages = before.messages }
step before (submission message) =
    record { book = submitted before.book message; messages = cond (is (number_of (verdict before.book message)) 0) (before.messages ++ message ∷ []) before.messages }
step before (entering block) = record { book = entered before.book block; messages = before.messages }
step before conversion =
    record { book = converted before.book; messages = cond (is (conversion_number before.book) 0) (kept_messages (used (converted before.book))) before.messages }
step before reading = before

-- calls one after another
unfoldable pub run : (before : Desk) (calls : List Call) → Desk
run before [] = before
run before (call ∷ calls) = run (step before call) calls

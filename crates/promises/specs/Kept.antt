-- DEMAND 3, CALL BY CALL: what a promise on one call can cite. An accepted opening begins `Invariant book messages` (a record of Laws/Invariant), and so does an
-- accepted conversion; every call keeps it, whatever it answers, and what is read of a book that has it is what the accepted messages give. `Later before after` (a
-- record of Words) is what keeps finals. Each proof is one line, as on the page of promises.
use Rattle.std.specs.Prelude.{◌≡◌, ◌<◌}
use Rattle.laws.specs.Base.{true, cond, none, some, option_get_or, option_map, List, [], ℕ}
use Rattle.laws.specs.Tests.{is}
use Rattle.laws.specs.Lists.{find, nth}
use Rattle.paper.specs.Layout.{Bytes, Block, area, net, pair}
use Rattle.paper.specs.Book.{day_block, used, is_sender_block_of, trade, slot_of, is_trade_of}
use Rattle.paper.specs.Sound.{sound}
use Rattle.paper.specs.Nets.{bought, sold}
use Rattle.paper.specs.Acceptance.{submitted}
use Rattle.paper.specs.Finals.{final}
use Rattle.paper.specs.Opening.{Opening, open_number, opened}
use Rattle.paper.specs.Clock.{clock_moved}
use Rattle.paper.specs.Rights.{entered}
use Rattle.paper.specs.Conversion.{conversion_number, converted, kept_messages}
use Rattle.paper.specs.Readings.{stored_as, mark_answer, accepted_block}
use Rattle.paper.specs.PlainRule.{latest, series_of_latest, other_party}
use Rattle.facts.specs.Sound.{is_sound, sound_says}
use Rattle.facts.specs.Nets.{SignedSum}
use Rattle.facts.specs.Conversion.{conversion_refused}
use Rattle.promises.specs.Laws.Finals.{later_refl, later_trans, later_clock, later_submission, later_entering, later_conversion, final_carried, final_converted}
use Rattle.promises.specs.Laws.Invariant.{Invariant, invariant_opened, invariant_converted, opening_kept, clock_kept, submission_kept, entering_kept, conversion_kept}
use Rattle.promises.specs.Laws.Readings.{stored_plain, accepted_block_plain, accepted_block_none, mark_reading, partner_reading, net_reading, final_reading}
use Rattle.promises.specs.Words.{content, final_given, messages_after, Later, plain_stored_as, plain_mark_answer, plain_final}

-- ---- 1. Calls that write

-- an accepted opening, of any bytes: no message is accepted yet
pub opening_begins : (buffer : Bytes) (o : Opening) → open_number buffer o ≡ 0 → Invariant (opened buffer o) []
opening_begins = invariant_opened

-- an accepted conversion, of any bytes: the series then kept stand as their senders' latest messages
pub conversion_begins : (book : Bytes) → conversion_number book ≡ 0 → Invariant (converted book) (kept_messages (used (converted book)))
conversion_begins = invariant_converted

-- and one that is refused changes nothing
pub conversion_leaves : (book : Bytes) → (conversion_number book ≡ 0 → ⊥) → converted book ≡ book
conversion_leaves = conversion_refused

module _ (book : Bytes) (messages : List Bytes) (holds : Invariant book messages) where
  pub book_is_sound : sound book ≡ true
  book_is_sound = is_sound book holds.good

  pub opening_keeps : (o : Opening) → Invariant (opened book o) (cond (is (open_number book o) 0) [] messages)
  opening_keeps o = opening_kept book messages o holds

  pub clock_keeps : (minute : ℕ) → Invariant (clock_moved book minute) messages × Later book (clock_moved book minute)
  clock_keeps minute = (clock_kept book messages minute holds, later_clock book minute)

  pub submission_keeps : (message : Bytes) → Invariant (submitted book message) (messages_after book message messages) × Later book (submitted book message)
  submission_keeps message = (submission_kept book messages message holds, later_submission book message)

  pub entering_keeps : (block : Bytes) → Invariant (entered book block) messages × Later book (entered book block)
  entering_keeps block = (entering_kept book messages block holds, later_entering book block)

  pub conversion_keeps : Invariant (converted book) (cond (is (conversion_number book) 0) (kept_messages (used (converted book))) messages)
      × Later book (converted book)
  conversion_keeps = (conversion_kept book messages holds, later_conversion book)

  -- ---- 2. Readings

  -- the stored series with an id of a sender is the one that its latest message has, sender's slot, mark and check apart
  pub stored_as_sent : (e id : Bytes) → option_map content (stored_as (used book) e id) ≡ option_map content (plain_stored_as messages e id)
  stored_as_sent = stored_plain book messages holds

  pub accepted_block_as_sent : (e id : Bytes) → content (accepted_block book e id) ≡ content (option_get_or (plain_stored_as messages e id) [])
  accepted_block_as_sent = accepted_block_plain book messages holds

  pub no_accepted_block : (e id : Bytes) → plain_stored_as messages e id ≡ none → accepted_block book e id ≡ []
  no_accepted_block = accepted_block_none book messages holds

  -- its mark is the plain rule's, 23 where the message has no such series; the slot that the answer names is told the rule
  pub mark_as_ruled : (e id : Bytes) → mark_answer book e id ≡ plain_mark_answer messages e id (mark_answer book e id).partner.0
  mark_as_ruled = mark_reading book messages holds

  -- and that slot holds the trade of the other party with the same pair; it is 0, which no slot is, where there is none
  pub partner_as_ruled : (e id : Bytes) (y : Block) → plain_stored_as messages e id ≡ some y
      → nth (used book) (mark_answer book e id).partner.0 ≡ find (is_trade_of (slot_of (used book) (other_party e (pair y))) (trade y)) (used book)
  partner_as_ruled = partner_reading book messages holds

  -- each net of a stored sender, at position k + 1, is the signed sum of the quantities that it last sent
  pub net_as_summed : (e : Bytes) (s : Block) → find (is_sender_block_of e) (used book) ≡ some s → (k : ℕ) → k < 100
      → SignedSum (net s k) (bought (area (day_block book)) e (series_of_latest (latest e messages)) k) (sold (area (day_block book)) e (series_of_latest (latest e messages)) k)
  net_as_summed = net_reading book messages holds

  -- a final is worked out from what each party last sent
  pub final_as_sent : (seller buyer : Bytes) (position : ℕ) → final book seller buyer position ≡ plain_final (day_block book) messages seller buyer position
  final_as_sent = final_reading book messages holds

-- ---- 3. Finals, over any number of calls

pub later_same : (book : Bytes) → Later book book
later_same = later_refl

pub later_further : (first second third : Bytes) → Later first second → Later second third → Later first third
later_further = later_trans

-- a conversion of any bytes, accepted or refused
pub later_converted : (book : Bytes) → Later book (converted book)
later_converted = later_conversion

pub final_later : (before after : Bytes) → sound after ≡ true → Later before after → (seller buyer : Bytes) (position v : ℕ)
    → final before seller buyer position ≡ final_given v → final after seller buyer position ≡ final_given v
final_later before after s = final_carried before after (sound_says after s)

pub final_after_conversion : (book seller buyer : Bytes) (position v : ℕ)
    → final book seller buyer position ≡ final_given v → final (converted book) seller buyer position ≡ final_given v
final_after_conversion = final_converted

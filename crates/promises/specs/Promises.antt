-- THE PAGE OF PROMISES. Each promise is stated in the words of `paper`, with a few more that stand in Words; each proof is one line that cites the file that carries
-- the weight.
use Rattle.std.specs.Prelude.{◌≡◌, ◌∷◌, ◌++◌, ◌+◌, ◌-◌, ◌*◌, ◌≤◌, ◌<◌}
use Rattle.laws.specs.Base.{true, false, none, some, option_get_or, option_map, List, [], ℕ, length, drop, get_or}
use Rattle.laws.specs.Tests.{◌or◌}
use Rattle.laws.specs.Lists.{same, find, nth, has, apart, keep, total, All}
use Rattle.laws.specs.Bytes.{little}
use Rattle.paper.specs.Layout.{Bytes, Block, n_of, limit, area, rule_of, sellers_rule, lesser_rule, sender, nets, net, senders_slot, in_party, out_party, pair, key, mark, partner, quantities, quantity}
use Rattle.paper.specs.Book.{day_block, used, free_slots, is_sender, is_series, is_right, is_trade, trade, is_right_of, is_sender_block_of, slot_of, is_series_of, is_series_with, is_trade_of, own_sender, own_series, own_rights}
use Rattle.paper.specs.Sound.{sound}
use Rattle.paper.specs.Message.{head_of, series_of}
use Rattle.paper.specs.Rules.{number_of, sum_on, closed, verdict}
use Rattle.paper.specs.Marks.{is_counterpart, counterpart_slot, first_difference, differences, mark_of}
use Rattle.paper.specs.Nets.{bought, sold, net_of}
use Rattle.paper.specs.Acceptance.{accepted, submitted}
use Rattle.paper.specs.Looks.{found, partners_found, submit_answer}
use Rattle.paper.specs.PlainRun.{plain_run}
use Rattle.paper.specs.Finals.{lesser_of, final_of, held, final}
use Rattle.paper.specs.Settled.{is_trade_series, parties, trade_pairs, buyer_of, seller_of, final_of_pair, bought_by, sold_by, settled_refused, settled}
use Rattle.paper.specs.Readings.{mark_answer, accepted_block}
use Rattle.paper.specs.Opening.{Opening, open_number, opened}
use Rattle.paper.specs.Clock.{clock_answer, clock_moved}
use Rattle.paper.specs.Rights.{enter_number, entered}
use Rattle.paper.specs.Conversion.{conversion_number, converted, kept_messages}
use Rattle.paper.specs.PlainRule.{latest, series_of_latest, plain_held, other_party, plain_mark, plain_nets}
use Rattle.paper.specs.Calls.{Call, run}
use Rattle.facts.specs.Sound.{sound_says}
use Rattle.facts.specs.Verdict.{accepts}
use Rattle.facts.specs.Calls.{moves}
use Rattle.facts.specs.Rights.{enters, entering_refused}
use Rattle.facts.specs.Conversion.{converts, conversion_refused}
use Rattle.facts.specs.Marks.{Agree, Differ, no_difference_agree, difference_differ, agree_no_differences, no_differences_agree, no_differences_no_difference, no_difference_no_differences, differences_most, mark_agree, mark_differ}
use Rattle.facts.specs.Nets.{SignedSum, net_signed}
use Rattle.facts.specs.Looks.{found_counterpart}
use Rattle.facts.specs.Finals.{lesser_below_sellers, lesser_below_buyers, lesser_greatest, final_by_sellers, final_by_lesser}
use Rattle.facts.specs.Settled.{every_buyer_is_a_party, every_seller_is_a_party, every_party_appears, every_trade_is_counted, parties_apart, pairs_apart}
use Rattle.promises.specs.Laws.Conversion.{series_stays, sender_stays, right_stays, true_book_stays}
use Rattle.promises.specs.Laws.Entering.{used_entered, day_block_entered, rest_entered, entered_sound}
use Rattle.promises.specs.Laws.Finals.{rule_stays, final_stays}
use Rattle.promises.specs.Laws.Invariant.{Invariant, held_plain, content_plain, invariant_run, invariant_begun}
use Rattle.promises.specs.Laws.Isolation.{verdict_isolated, determined}
use Rattle.promises.specs.Laws.KeptMessages.{head_of_latest_kept, series_of_latest_kept}
use Rattle.promises.specs.Laws.Limits.{sums_within, sum_small}
use Rattle.promises.specs.Laws.Looks.{verdict_answered, looked_refused, looked_accepted, looked_most, partner_of_own, partner_of_counterpart}
use Rattle.promises.specs.Laws.Others.{others_kept, right_kept, rest_kept}
use Rattle.promises.specs.Laws.PlainMarks.{sender_named, mark_plain, partner_plain, says_yes}
use Rattle.promises.specs.Laws.ReadBack.{day_block_accepted}
use Rattle.promises.specs.Laws.Refusals.{opening_refused, clock_refused, submission_refused}
use Rattle.promises.specs.Laws.Settled.{settled_sums, refused_elsewhere, sums_given_cancel, positions_cancel, finals_given}
use Rattle.promises.specs.Laws.Soundness.{opened_sound, opened_rule, moved_sound, used_moved, submitted_sound}
use Rattle.promises.specs.Laws.ConvertedSlots.{used_converted_length, day_block_converted, converted_book_length, rest_converted}
use Rattle.promises.specs.Laws.SoundConverted.{converted_sound}
use Rattle.promises.specs.Kept.{book_is_sound, accepted_block_as_sent, no_accepted_block, mark_as_ruled, partner_as_ruled, net_as_summed, final_as_sent, final_after_conversion}
use Rattle.promises.specs.Words.{content, SameContents, SameRights, head_content, ButMark, Starts, begun, reached, Unopened, final_given, plain_content, plain_head_content, plain_stored_as, plain_mark_answer, plain_final, is_counterpart_of, Determines}

-- ---- 1. Soundness is kept, and a refusal changes nothing

pub opening_gives_a_sound_book : (book : Bytes) (o : Opening) → open_number book o ≡ 0 → sound (opened book o) ≡ true
opening_gives_a_sound_book = opened_sound

pub opening_writes_its_rule : (book : Bytes) (o : Opening) → open_number book o ≡ 0 → rule_of (day_block (opened book o)) ≡ o.rule
opening_writes_its_rule = opened_rule

pub clock_move_keeps_soundness : (book : Bytes) (minute : ℕ) → (clock_answer book minute).number ≡ 0 → sound (clock_moved book minute) ≡ true
clock_move_keeps_soundness = moved_sound

pub submission_keeps_soundness : (book message : Bytes) → number_of (verdict book message) ≡ 0 → sound (submitted book message) ≡ true
submission_keeps_soundness = submitted_sound

pub entering_keeps_soundness : (book block : Bytes) → enter_number book block ≡ 0 → sound (entered book block) ≡ true
entering_keeps_soundness = entered_sound

pub conversion_gives_a_sound_book : (book : Bytes) → conversion_number book ≡ 0 → sound (converted book) ≡ true
conversion_gives_a_sound_book = converted_sound

pub refused_opening_changes_nothing : (book : Bytes) (o : Opening) → (open_number book o ≡ 0 → ⊥) → opened book o ≡ book
refused_opening_changes_nothing = opening_refused

pub refused_clock_move_changes_nothing : (book : Bytes) (minute : ℕ) → ((clock_answer book minute).number ≡ 0 → ⊥) → clock_moved book minute ≡ book
refused_clock_move_changes_nothing = clock_refused

pub refused_submission_changes_nothing : (book message : Bytes) → (number_of (verdict book message) ≡ 0 → ⊥) → submitted book message ≡ book
refused_submission_changes_nothing = submission_refused

pub refused_entering_changes_nothing : (book block : Bytes) → (enter_number book block ≡ 0 → ⊥) → entered book block ≡ book
refused_entering_changes_nothing = entering_refused

pub refused_conversion_changes_nothing : (book : Bytes) → (conversion_number book ≡ 0 → ⊥) → converted book ≡ book
refused_conversion_changes_nothing = conversion_refused

-- ---- 2. Demand 3, marks and nets
-- For every buffer, every start, which is an accepted opening or an accepted conversion, and every sequence of calls after it: openings, conversions, clock moves,
-- submissions, rights entered and readings, accepted or refused, in any order, with any contents.
-- `book` is the book after them and `messages` are those accepted since the last accepted opening or conversion, oldest first; a conversion begins them with one message
-- for each sender, made of the blocks that it kept. The plain rule reads these messages and nothing of the book. What one call keeps of this stands in Kept, for
-- promises on calls to cite.

module _ (buffer : Bytes) (start : Call) (starts : Starts buffer start) (calls : List Call) where
  open reached buffer start calls use {book, messages}

  holds : Invariant (reached buffer start calls).book (reached buffer start calls).messages
  holds = invariant_run (begun buffer start) calls (invariant_begun buffer start starts)

  pub reached_book_is_sound : sound book ≡ true
  reached_book_is_sound = book_is_sound _ _ holds

  -- the stored series are those of each sender's latest accepted message: under every sender e and key k the book has a series exactly where that message has
  -- one, with the same bytes but for sender's slot, mark and check, and so with the same quantities
  pub stored_series_are_the_latest_messages : (e k : Bytes)
      → option_map content (find (is_series_with (slot_of (used book) e) k) (used book)) ≡ plain_content messages e k
  stored_series_are_the_latest_messages = content_plain _ _ holds

  pub stored_quantities_are_the_latest_messages : (e p : Bytes) → held (used book) e p ≡ plain_held messages e p
  stored_quantities_are_the_latest_messages = held_plain _ _ holds

  -- the stored sender blocks are the first blocks of these messages, but for nets and check
  pub stored_senders_are_the_latest_messages : (e : Bytes) → option_map head_content (find (is_sender_block_of e) (used book)) ≡ plain_head_content messages e
  stored_senders_are_the_latest_messages = holds.heads

  -- every series x in a slot has a sender e
  pub every_series_has_a_sender : (slot : ℕ) (x : Block) → nth (used book) slot ≡ some x → is_series x ≡ true → (e : Bytes) × (slot_of (used book) e ≡ senders_slot x)
  every_series_has_a_sender = sender_named _ _ holds

  -- the mark kept beside it is the plain rule's, the slot in it apart: the count of the positions that differ and the first of them
  pub marks_are_the_plain_rules : (slot : ℕ) (x : Block) → nth (used book) slot ≡ some x → is_series x ≡ true → (e : Bytes) → slot_of (used book) e ≡ senders_slot x
      → mark x ≡ plain_mark messages e (trade x) (partner x)
  marks_are_the_plain_rules = mark_plain _ _ holds

  -- that slot holds, for a trade, the series which the plain rule found: the other party's, with the same pair and with the quantities q that it last sent. By this a
  -- series whose counterpart agrees is told from one that stands alone
  pub partners_are_the_plain_rules : (slot : ℕ) (x : Block) → nth (used book) slot ≡ some x → is_series x ≡ true → (e : Bytes) → slot_of (used book) e ≡ senders_slot x
      → is_trade x ≡ true → (q : Bytes) → plain_held messages (other_party e (pair x)) (pair x) ≡ some q
      → (y : Block) × (nth (used book) (partner x) ≡ some y) × (is_series y ≡ true) × (slot_of (used book) (other_party e (pair x)) ≡ senders_slot y)
      × (trade y ≡ trade x) × (quantities y ≡ q)
  partners_are_the_plain_rules = partner_plain _ _ holds

  -- the nets kept for each sender, at all positions, are the plain rule's
  pub nets_are_the_plain_rules : (e : Bytes) → option_map nets (find (is_sender_block_of e) (used book)) ≡ plain_nets (area (day_block book)) messages e
  nets_are_the_plain_rules = holds.plain

  -- and at each position, k + 1, a sender's net is the signed sum of the quantities that it last sent
  pub kept_nets_are_signed_sums : (e : Bytes) (s : Block) → find (is_sender_block_of e) (used book) ≡ some s → (k : ℕ) → k < 100
      → SignedSum (net s k) (bought (area (day_block book)) e (series_of_latest (latest e messages)) k) (sold (area (day_block book)) e (series_of_latest (latest e messages)) k)
  kept_nets_are_signed_sums = net_as_summed _ _ holds

  -- and so are the readings by sender and id: the accepted block is the series that the sender's latest message has under the id, sender's slot, mark and check
  -- apart, the empty part where it has none
  pub accepted_blocks_are_the_latest_messages : (e id : Bytes) → content (accepted_block book e id) ≡ content (option_get_or (plain_stored_as messages e id) [])
  accepted_blocks_are_the_latest_messages = accepted_block_as_sent _ _ holds

  pub no_accepted_block_without_a_series : (e id : Bytes) → plain_stored_as messages e id ≡ none → accepted_block book e id ≡ []
  no_accepted_block_without_a_series = no_accepted_block _ _ holds

  -- the mark is the plain rule's, which is told the slot that the answer names; 23 where the message has no such series
  pub mark_answers_are_the_plain_rules : (e id : Bytes) → mark_answer book e id ≡ plain_mark_answer messages e id (mark_answer book e id).partner.0
  mark_answers_are_the_plain_rules = mark_as_ruled _ _ holds

  -- and that slot holds the trade of the other party with the same pair; it is 0, which no slot is, where there is none
  pub partners_answered_are_the_plain_rules : (e id : Bytes) (y : Block) → plain_stored_as messages e id ≡ some y
      → nth (used book) (mark_answer book e id).partner.0 ≡ find (is_trade_of (slot_of (used book) (other_party e (pair y))) (trade y)) (used book)
  partners_answered_are_the_plain_rules = partner_as_ruled _ _ holds

  -- a final is worked out from what each party last sent
  pub finals_are_the_latest_messages : (seller buyer : Bytes) (p : ℕ) → final book seller buyer p ≡ plain_final (day_block book) messages seller buyer p
  finals_are_the_latest_messages = final_as_sent _ _ holds

  -- ---- 3. Demand 3, finals: a final value v once given for a pair and a position p is given unchanged after any further calls, conversions among them, until the book
  -- is opened again

  pub finals_stay : (further : List Call) → Unopened (reached buffer start calls) further → (seller buyer : Bytes) (p v : ℕ)
      → final book seller buyer p ≡ final_given v → final (run (reached buffer start calls) further).book seller buyer p ≡ final_given v
  finals_stay further = final_stays (reached buffer start calls) further holds

  -- and by one rule: no call but an accepted opening changes the byte that names it
  pub the_rule_stays : (further : List Call) → Unopened (reached buffer start calls) further
      → rule_of (day_block (run (reached buffer start calls) further).book) ≡ rule_of (day_block book)
  the_rule_stays further = rule_stays (reached buffer start calls) further

  -- ---- 4. The plain run says yes

  pub plain_run_says_yes : plain_run book ≡ record { number = 0; holds = true }
  plain_run_says_yes = says_yes _ _ holds

-- ---- 5. Isolation: two sound books give one answer to one message if they agree in the day block, in the number of free slots and in what is stored of the
-- message's sender: its sender block but for nets and check, the contents of its series (all bytes but sender's slot, mark and check) and its own rights, in whatever
-- order. So no right of another sender changes an answer. Of a sender that is not stored the sender block is the empty block, and there are no series

pub answers_are_isolated : (book other message : Bytes) → sound book ≡ true → sound other ≡ true → day_block book ≡ day_block other
    → head_content (own_sender (used book) (sender (head_of message))) ≡ head_content (own_sender (used other) (sender (head_of message)))
    → SameContents (own_series (used book) (sender (head_of message))) (own_series (used other) (sender (head_of message)))
    → SameRights (own_rights (used book) (sender (head_of message))) (own_rights (used other) (sender (head_of message)))
    → free_slots book ≡ free_slots other → verdict book message ≡ verdict other message
answers_are_isolated = verdict_isolated

-- ---- 6. Other senders' blocks: each keeps its slot and every byte but mark and check, and these too unless it is the counterpart of a series of the sender;
-- the day block and everything behind the used slots stay

pub others_keep_their_blocks : (book message : Bytes) → number_of (verdict book message) ≡ 0 → (slot : ℕ) (x : Block) → nth (used book) slot ≡ some x
    → is_sender_block_of (sender (head_of message)) x ≡ false → is_series_of (slot_of (used book) (sender (head_of message))) x ≡ false
    → (y : Block) × (nth (used (accepted book message)) slot ≡ some y) × ButMark x y
    × (is_counterpart_of (used (accepted book message)) (sender (head_of message)) x ≡ false → y ≡ x)
others_keep_their_blocks book message e = others_kept book message (accepts book message e)

pub day_block_stays : (book message : Bytes) → number_of (verdict book message) ≡ 0 → day_block (accepted book message) ≡ day_block book
day_block_stays book message e = day_block_accepted book message (accepts book message e)

pub free_slots_stay : (book message : Bytes) → number_of (verdict book message) ≡ 0
    → drop (512 + 512 * length (used (accepted book message))) (accepted book message) ≡ drop (512 + 512 * length (used (accepted book message))) book
free_slots_stay book message e = rest_kept book message (accepts book message e)

-- A right that is entered stands in the lowest free slot as it was given; the day block, every used slot and everything behind that one stay

pub an_entered_right_takes_the_lowest_free_slot : (book block : Bytes) → enter_number book block ≡ 0 → used (entered book block) ≡ used book ++ block ∷ []
an_entered_right_takes_the_lowest_free_slot book block e = used_entered book block (enters book block e)

pub entering_keeps_the_day_block : (book block : Bytes) → enter_number book block ≡ 0 → day_block (entered book block) ≡ day_block book
entering_keeps_the_day_block book block e = day_block_entered book block (enters book block e)

pub entering_keeps_the_rest : (book block : Bytes) → enter_number book block ≡ 0
    → drop (512 + 512 * length (used (entered book block))) (entered book block) ≡ drop (512 + 512 * length (used (entered book block))) book
entering_keeps_the_rest book block e = rest_entered book block (enters book block e)

-- A conversion leaves the day block, and so n, lead and clock; it leaves the length, the number of used slots and everything behind them; each series keeps its slot
-- and every byte but mark and check, each sender its slot and every byte but nets and check

pub conversion_keeps_the_day_block : (book : Bytes) → conversion_number book ≡ 0 → day_block (converted book) ≡ day_block book
conversion_keeps_the_day_block book e = day_block_converted book (converts book e)

pub conversion_keeps_the_length : (book : Bytes) → conversion_number book ≡ 0 → length (converted book) ≡ length book
conversion_keeps_the_length book e = converted_book_length book (converts book e)

pub conversion_keeps_each_series : (book : Bytes) → conversion_number book ≡ 0 → (slot : ℕ) (x : Block) → nth (used book) slot ≡ some x → is_series x ≡ true
    → (y : Block) × (nth (used (converted book)) slot ≡ some y) × ButMark x y
conversion_keeps_each_series book e = series_stays book (converts book e)

pub conversion_keeps_each_sender : (book : Bytes) → conversion_number book ≡ 0 → (slot : ℕ) (s : Block) → nth (used book) slot ≡ some s → is_sender s ≡ true
    → (y : Block) × (nth (used (converted book)) slot ≡ some y) × (head_content y ≡ head_content s)
conversion_keeps_each_sender book e = sender_stays book (converts book e)

pub conversion_uses_no_further_slot : (book : Bytes) → conversion_number book ≡ 0 → length (used (converted book)) ≡ length (used book)
conversion_uses_no_further_slot book e = used_converted_length book (converts book e)

pub conversion_keeps_the_rest : (book : Bytes) → conversion_number book ≡ 0
    → drop (512 + 512 * length (used book)) (converted book) ≡ drop (512 + 512 * length (used book)) book
conversion_keeps_the_rest book e = rest_converted book (converts book e)

-- with the quantities stays every final that the book gave before, whoever made it
pub conversion_keeps_finals : (book seller buyer : Bytes) (p v : ℕ) → final book seller buyer p ≡ final_given v → final (converted book) seller buyer p ≡ final_given v
conversion_keeps_finals = final_after_conversion

-- and a book of bytes whose marks and nets are all true stays as it is
pub converting_a_true_book_changes_nothing : (book : Bytes) → All (λ byte. byte < 256) book → plain_run book ≡ record { number = 0; holds = true }
    → converted book ≡ book
converting_a_true_book_changes_nothing = true_book_stays

-- ---- 7. Determinacy: a promise of the form used here, answer and lent bytes each equal to a function of the inputs, allows one outcome

pub promises_determine : {I A : Type 0} (answer : I → A) (bytes : I → Bytes) → Determines {I = I} {A = A} (λ i r x. (r ≡ answer i) × (x ≡ bytes i))
promises_determine = determined

-- ---- 8. What marks, nets, finals and a conversion's messages are
-- Facts of the definitions that demand 3 speaks in: `Agree`, `Differ` and `SignedSum` are of crates/facts, `Marks` and `Nets`.

-- the first difference is 0 exactly where all n quantities agree, else the lowest position of the n at which they differ
pub no_first_difference : (ours theirs : Bytes) (n : ℕ) → first_difference n ours theirs ≡ 0 → Agree n ours theirs
no_first_difference = no_difference_agree

pub first_difference_lem : (ours theirs : Bytes) (n k : ℕ) → first_difference n ours theirs ≡ k + 1 → Differ n ours theirs k
first_difference_lem = difference_differ

-- the count of differences is 0 exactly where all n quantities agree, and so exactly where the first difference is; it is at most n
pub no_differences_where_all_agree : (ours theirs : Bytes) (n : ℕ) → Agree n ours theirs → differences n ours theirs ≡ 0
no_differences_where_all_agree = agree_no_differences

pub no_differences_only_where_all_agree : (ours theirs : Bytes) (n : ℕ) → differences n ours theirs ≡ 0 → Agree n ours theirs
no_differences_only_where_all_agree = no_differences_agree

pub first_is_0_where_the_count_is_0 : (ours theirs : Bytes) (n : ℕ) → differences n ours theirs ≡ 0 → first_difference n ours theirs ≡ 0
first_is_0_where_the_count_is_0 = no_differences_no_difference

pub first_is_0_only_where_the_count_is_0 : (ours theirs : Bytes) (n : ℕ) → first_difference n ours theirs ≡ 0 → differences n ours theirs ≡ 0
first_is_0_only_where_the_count_is_0 = no_difference_no_differences

pub count_is_at_most_n : (ours theirs : Bytes) (n : ℕ) → differences n ours theirs ≤ n
count_is_at_most_n = differences_most

-- and so the mark beside a counterpart is
pub mark_where_all_agree : (ours theirs : Bytes) (n slot : ℕ) → Agree n ours theirs → mark_of n ours (some theirs) slot ≡ 0 ∷ 0 ∷ little 2 slot
mark_where_all_agree = mark_agree

pub mark_where_they_differ : (ours theirs : Bytes) (n slot k : ℕ) → Differ n ours theirs k
    → mark_of n ours (some theirs) slot ≡ differences n ours theirs ∷ (k + 1) ∷ little 2 slot
mark_where_they_differ = mark_differ

-- the messages that a conversion begins with: the latest of each sender e is its sender block and its series, as the sound book keeps them
pub kept_senders_stand_as_the_latest_messages : (book : Bytes) → sound book ≡ true → (e : Bytes)
    → option_map head_of (latest e (kept_messages (used book))) ≡ find (is_sender_block_of e) (used book)
kept_senders_stand_as_the_latest_messages book s = head_of_latest_kept book (sound_says book s)

pub kept_series_stand_as_the_latest_messages : (book : Bytes) → sound book ≡ true → (e : Bytes)
    → series_of_latest (latest e (kept_messages (used book))) ≡ own_series (used book) e
kept_series_stand_as_the_latest_messages book s = series_of_latest_kept book (sound_says book s)

-- a net's word is the signed sum, exact within ±1,999,999,800, which no sum of a message's quantities passes
pub nets_are_signed_sums : (ours e : Bytes) (series : List Block) (k : ℕ) → length series ≤ 200 → All (λ x. quantity x k ≤ 9999999) series
    → SignedSum (net_of ours e series k) (bought ours e series k) (sold ours e series k)
nets_are_signed_sums = net_signed

-- a final is the seller's quantity or the lesser of the two, by the book's rule; the lesser is the greatest number that is above neither
pub final_by_the_sellers_rule : (sellers buyers : ℕ) → final_of sellers_rule sellers buyers ≡ sellers
final_by_the_sellers_rule = final_by_sellers

pub final_by_the_lesser_rule : (sellers buyers : ℕ) → final_of lesser_rule sellers buyers ≡ lesser_of sellers buyers
final_by_the_lesser_rule = final_by_lesser

pub the_lesser_is_at_most_the_sellers : (sellers buyers : ℕ) → lesser_of sellers buyers ≤ sellers
the_lesser_is_at_most_the_sellers = lesser_below_sellers

pub the_lesser_is_at_most_the_buyers : (sellers buyers : ℕ) → lesser_of sellers buyers ≤ buyers
the_lesser_is_at_most_the_buyers = lesser_below_buyers

pub the_lesser_is_the_greatest_such : (sellers buyers k : ℕ) → k ≤ sellers → k ≤ buyers → k ≤ lesser_of sellers buyers
the_lesser_is_the_greatest_such = lesser_greatest

-- ---- 9. The search for counterparts (C-23)
-- What a submission reports beside its verdict is a number of looks at slots, of which the isolation of promise 5 does not speak. Each look is `Looks.look` of `paper`,
-- which is lent one slot's number and block, the message's series, the sender's slot and what is found so far.

-- the verdict is what it was
pub the_answer_has_the_verdict : (book message : Bytes) → (submit_answer book message).verdict ≡ verdict book message
the_answer_has_the_verdict = verdict_answered

pub a_refusal_reports_0 : (book message : Bytes) → (number_of (verdict book message) ≡ 0 → ⊥) → (submit_answer book message).looked ≡ 0
a_refusal_reports_0 = looked_refused

-- an acceptance looks at every used slot once: with m series in a book with u used slots, both taken after it, at no more than u + m
pub an_acceptance_looks_at_the_used_slots : (book message : Bytes) → number_of (verdict book message) ≡ 0
    → (submit_answer book message).looked ≡ length (used (accepted book message))
an_acceptance_looks_at_the_used_slots book message e = looked_accepted book message e (accepts book message e)

pub looks_are_at_most_u_and_m : (book message : Bytes) → number_of (verdict book message) ≡ 0
    → (submit_answer book message).looked ≤ length (used (accepted book message)) + length (series_of message)
looks_are_at_most_u_and_m book message e = looked_most book message e (accepts book message e)

-- the partners written are those found: in the mark of each series x of the sender stands what the looks have found for the message's series with its key, k + 1
pub partners_written_are_found : (book message : Bytes) → number_of (verdict book message) ≡ 0 → (slot : ℕ) (x : Block)
    → nth (used (accepted book message)) slot ≡ some x → is_series_of (slot_of (used (accepted book message)) (sender (head_of message))) x ≡ true
    → (k : ℕ) → k < length (series_of message) → key x ≡ key (get_or (series_of message) k []) → partner x ≡ get_or (partners_found book message) k 0
partners_written_are_found book message e = partner_of_own book message (accepts book message e)

-- and in the mark of its counterpart y its own slot: nothing is sought for that
pub counterparts_name_the_placed_series : (book message : Bytes) → number_of (verdict book message) ≡ 0 → (slot : ℕ) (x : Block)
    → nth (used (accepted book message)) slot ≡ some x → is_series_of (slot_of (used (accepted book message)) (sender (head_of message))) x ≡ true
    → (other : ℕ) (y : Block) → nth (used (accepted book message)) other ≡ some y
    → is_counterpart (slot_of (used (accepted book message)) (sender (head_of message))) (trade x) y ≡ true → partner y ≡ slot
counterparts_name_the_placed_series book message e = partner_of_counterpart book message (accepts book message e)

-- the bytes stay: over any blocks the looks find for each series of any message the slot that the mark of a series x that is paired by the same has always named
pub the_looks_find_the_counterparts : (after series : List Block) (own k : ℕ) → k < length series → (x : Block) → senders_slot x ≡ own
    → trade x ≡ trade (get_or series k []) → get_or (found after series own) k 0 ≡ counterpart_slot after x
the_looks_find_the_counterparts = found_counterpart

-- ---- 10. Rights (C-14)

-- a right that is entered is never altered: through a submission, a clock move and a conversion it stands in its slot as it was given, and a further right comes
-- behind it (6)
pub acceptance_keeps_each_right : (book message : Bytes) → number_of (verdict book message) ≡ 0 → (slot : ℕ) (r : Block) → nth (used book) slot ≡ some r
    → is_right r ≡ true → nth (used (accepted book message)) slot ≡ some r
acceptance_keeps_each_right book message e = right_kept book message (accepts book message e)

pub clock_move_keeps_the_used_slots : (book : Bytes) (minute : ℕ) → (clock_answer book minute).number ≡ 0 → used (clock_moved book minute) ≡ used book
clock_move_keeps_the_used_slots book minute e = used_moved book minute (moves book minute e)

pub conversion_keeps_each_right : (book : Bytes) → conversion_number book ≡ 0 → (slot : ℕ) (r : Block) → nth (used book) slot ≡ some r → is_right r ≡ true
    → nth (used (converted book)) slot ≡ some r
conversion_keeps_each_right book e = right_stays book (converts book e)

-- of an accepted message the quantities on each right that its sender holds add up, at each position, to no more than its limit
pub accepted_schedules_stay_within_their_rights : (book message : Bytes) → number_of (verdict book message) ≡ 0 → (slot : ℕ) (r : Block) → nth (used book) slot ≡ some r
    → is_right_of (sender (head_of message)) r ≡ true → (k : ℕ) → k < 100 → k < n_of (day_block book) → sum_on r (series_of message) k ≤ limit r k
accepted_schedules_stay_within_their_rights book message e = sums_within book message (accepts book message e)

-- a sum that rule 19 compares, over series that have passed and one that has passed rules 11 to 13, is below 2 to the 25
pub sums_of_rule_19_are_small : (book : Bytes) → sound book ≡ true → (slot : ℕ) (r : Block) → nth (used book) slot ≡ some r → is_right r ≡ true → (seen : List Block) (y : Block) (k : ℕ)
    → k < n_of (day_block book) → sum_on r seen k ≤ limit r k → quantity y k ≤ 9999999 → sum_on r seen k + quantity y k ≤ 19999998
sums_of_rule_19_are_small book s = sum_small book (sound_says book s)

-- ---- 11. Settled quantities cancel (C-20)
-- At one quarter-hour a party's settled position is what it buys less what it sells, in finals, each pair once: `settled` gives the two sums. Whether marks and nets are true
-- is not asked: this holds of any sound book, whoever made it, and by whichever of the two rules it settles.

-- at a closed position every party is given its two sums
pub settled_positions_are_given : (book : Bytes) → sound book ≡ true → (position : ℕ) → 1 ≤ position → position ≤ n_of (day_block book) → closed (day_block book) position ≡ true
    → (party : Bytes) → settled book party position
    ≡ record { number = 0; bought = bought_by (day_block book) (used book) position party; sold = sold_by (day_block book) (used book) position party }
settled_positions_are_given = settled_sums

-- at any other, and of a book that is not sound, each is refused as every final is, by the same number
pub settled_positions_are_refused_as_finals : (book : Bytes) (position : ℕ) → (1 ≤ position → position ≤ n_of (day_block book) → closed (day_block book) position ≡ true → ⊥)
    → (party seller buyer : Bytes) → settled book party position ≡ settled_refused (final book seller buyer position).number
settled_positions_are_refused_as_finals = refused_elsewhere

-- over the list of parties, each once, as much is bought as is sold
pub settled_quantities_cancel : (book : Bytes) → sound book ≡ true → (position : ℕ) → 1 ≤ position → position ≤ n_of (day_block book) → closed (day_block book) position ≡ true
    → total (λ party. (settled book party position).bought) (parties (used book)) ≡ total (λ party. (settled book party position).sold) (parties (used book))
settled_quantities_cancel = sums_given_cancel

-- so the settled positions give 0. One may be below 0, which ℕ has no number for: those above 0 are together as much as those below 0, as `-` stops at 0 here
pub settled_positions_give_0 : (book : Bytes) → sound book ≡ true → (position : ℕ) → 1 ≤ position → position ≤ n_of (day_block book) → closed (day_block book) position ≡ true
    → total (λ party. (settled book party position).bought - (settled book party position).sold) (parties (used book))
    ≡ total (λ party. (settled book party position).sold - (settled book party position).bought) (parties (used book))
settled_positions_give_0 = positions_cancel

-- The lists: every buyer and every seller of a pair is in the list of parties, every party there is one of an A02 series, and none stands there twice
pub every_buyer_is_in_the_list : (us : List Block) → All (λ p. has (same (buyer_of p)) (parties us) ≡ true) (trade_pairs us)
every_buyer_is_in_the_list = every_buyer_is_a_party

pub every_seller_is_in_the_list : (us : List Block) → All (λ p. has (same (seller_of p)) (parties us) ≡ true) (trade_pairs us)
every_seller_is_in_the_list = every_seller_is_a_party

pub every_party_is_one_of_a_trade : (us : List Block) → All (λ e. has (λ x. same (in_party x) e or same (out_party x) e) (keep is_trade_series us) ≡ true) (parties us)
every_party_is_one_of_a_trade = every_party_appears

pub no_party_is_counted_twice : (us : List Block) → apart same (parties us) ≡ true
no_party_is_counted_twice = parties_apart

-- every A02 series has its pair in the list of pairs, and none stands there twice
pub every_pair_is_counted : (us : List Block) → All (λ x. has (same (pair x)) (trade_pairs us) ≡ true) (keep is_trade_series us)
every_pair_is_counted = every_trade_is_counted

pub no_pair_is_counted_twice : (us : List Block) → apart same (trade_pairs us) ≡ true
no_pair_is_counted_twice = pairs_apart

-- what is added up are finals that the call for a final value gives, never a refusal's 0
pub finals_in_the_sums_are_given : (book : Bytes) → sound book ≡ true → (position : ℕ) → 1 ≤ position → position ≤ n_of (day_block book) → closed (day_block book) position ≡ true
    → All (λ p. final book (seller_of p) (buyer_of p) position ≡ record { number = 0; kilowatts = final_of_pair (day_block book) (used book) position p }) (trade_pairs (used book))
finals_in_the_sums_are_given = finals_given

-- ---- 12. The useless versions contradict these promises: see the crate `useless`

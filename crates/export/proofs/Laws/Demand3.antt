-- Each call gives what its definition gives, and of the definitions demand 3 is proved call by call: an equation for the book after the call, or for the answer,
-- carries it over.
use Rattle.std.specs.Prelude.{◌≡◌, ◌∷◌, ◌++◌}
use Rattle.laws.specs.Base.{refl, sym, ap, ◌∙◌, cond, List, [], ℕ, arith}
use Rattle.laws.specs.Tests.{is}
use Rattle.paper.specs.declared.MarkAnswer.{MarkAnswer}
use Rattle.paper.specs.declared.FinalAnswer.{FinalAnswer}
use Rattle.paper.specs.declared.PlainRunAnswer.{PlainRunAnswer}
use Rattle.paper.specs.declared.OpenAnswer.{OpenAnswer}
use Rattle.paper.specs.declared.SubmitAnswer.{SubmitAnswer}
use Rattle.paper.specs.Layout.{Bytes}
use Rattle.paper.specs.Book.{used}
use Rattle.paper.specs.Acceptance.{submitted}
use Rattle.paper.specs.Looks.{submit_answer}
use Rattle.paper.specs.Opening.{Opening, open_number, open_answer, opened}
use Rattle.paper.specs.Clock.{clock_moved}
use Rattle.paper.specs.Rights.{entered}
use Rattle.paper.specs.Conversion.{conversion_number, converted, kept_messages}
use Rattle.paper.specs.Finals.{final}
use Rattle.paper.specs.PlainRun.{plain_run}
use Rattle.paper.specs.Readings.{mark_answer, accepted_block}
use Rattle.promises.specs.Laws.Invariant.{Invariant, content_plain}
use Rattle.promises.specs.Laws.PlainMarks.{says_yes}
use Rattle.promises.specs.Promises.{refused_opening_changes_nothing}
use Rattle.promises.specs.Kept.{opening_begins, conversion_begins, conversion_leaves, clock_keeps, entering_keeps, submission_keeps, book_is_sound, mark_as_ruled, partner_as_ruled, accepted_block_as_sent, no_accepted_block, final_as_sent, final_later, final_after_conversion}
use Rattle.promises.specs.Words.{messages_after, Later}
use Rattle.export.specs.Demand3.{Partner, Demand3, FinalsStay, OpeningKeeps, ConversionKeeps, ClockKeeps, EnteringKeeps, SubmissionKeeps, MarkByMessages, BlockByMessages, FinalByMessages, PlainRunSaysYes}

demand3 : (book : Bytes) (messages : List Bytes) → Invariant book messages → Demand3 book messages
unfolding Partner
demand3 book messages v =
    record {
      series = content_plain book messages v;
      marks = mark_as_ruled book messages v;
      partners = partner_as_ruled book messages v;
      senders_nets = v.plain;
      invariant = v;
    }

-- what the definitions keep, of the book that the call gave and of the messages as its answer counts them
kept : (before : Bytes) {after given : Bytes} {messages counted : List Bytes} → given ≡ after → messages ≡ counted → Invariant after messages × Later before after
    → Demand3 given counted × FinalsStay before given
unfolding FinalsStay
kept before {after} {given} {messages} e f h = rw (e, ← f) (demand3 after messages h.0, final_later before after (book_is_sound after messages h.0) h.1)

pub opening_kept : (b : Bytes) (o : Opening) {r : OpenAnswer} {c : Bytes} → (r ≡ open_answer b o) × (c ≡ opened b o) → OpeningKeeps b r.number c
unfolding OpeningKeeps open_answer
opening_kept b o {r} e =
    let q : r.number ≡ open_number b o = ap (λ (a : OpenAnswer). a.number) e.0 in (
      λ z. rw e.1 (demand3 (opened b o) [] (opening_begins b o (sym q ∙ z))),
      λ n. e.1 ∙ refused_opening_changes_nothing b o (λ z. n (q ∙ z)),
    )

-- the same of a list that is the messages kept: where it is another, that is told at once, and no definition is looked into
demand3_kept : (book : Bytes) (messages : List Bytes) → messages ≡ kept_messages (used book) → Invariant book (kept_messages (used book)) → Demand3 book messages
demand3_kept book messages p v = rw p (demand3 book (kept_messages (used book)) v)

pub conversion_kept : (b : Bytes) {r : ℕ} {c : Bytes} → (r ≡ conversion_number b) × (c ≡ converted b) → ConversionKeeps b r c
unfolding ConversionKeeps FinalsStay
conversion_kept b {c = c} e = (
  λ z. demand3_kept c _ (grind arith) (rw e.1 (conversion_begins b (sym e.0 ∙ z))),
  λ n. e.1 ∙ conversion_leaves b (λ z. n (e.0 ∙ z)),
  rw e.1 (final_after_conversion b),
)

pub clock_kept : (b : Bytes) (minute : ℕ) {c : Bytes} → c ≡ clock_moved b minute → ClockKeeps b c
unfolding ClockKeeps
clock_kept b minute e messages v = kept b e refl (clock_keeps b messages v.invariant minute)

pub entering_kept : (b block : Bytes) {c : Bytes} → c ≡ entered b block → EnteringKeeps b c
unfolding EnteringKeeps
entering_kept b block e messages v = kept b e refl (entering_keeps b messages v.invariant block)

counted : (b m : Bytes) (messages : List Bytes) {r : SubmitAnswer} → r ≡ submit_answer b m
    → messages_after b m messages ≡ cond (is r.verdict.number 0) (messages ++ m ∷ []) messages
unfolding messages_after submit_answer
counted b m messages e = rw e

pub submission_kept : (b m : Bytes) {r : SubmitAnswer} {c : Bytes} → (r ≡ submit_answer b m) × (c ≡ submitted b m) → SubmissionKeeps b m r.verdict.number c
unfolding SubmissionKeeps
submission_kept b m e messages v = kept b e.1 (counted b m messages e.0) (submission_keeps b messages v.invariant m)

pub mark_by_messages : (b e i : Bytes) {r : MarkAnswer} → r ≡ mark_answer b e i → MarkByMessages b e i r
unfolding MarkByMessages
mark_by_messages b e i q messages v = rw q (v.marks e i, v.partners e i)

-- beside whatever else is said of the part
pub block_by_messages : (b e i : Bytes) {A : Type 0} {x : Bytes} → A × (x ≡ accepted_block b e i) → (A × (x ≡ accepted_block b e i)) × BlockByMessages b e i x
unfolding BlockByMessages
block_by_messages b e i q =
    (q, λ messages v. rw q.1 (accepted_block_as_sent b messages v.invariant e i, no_accepted_block b messages v.invariant e i))

pub final_by_messages : (b seller buyer : Bytes) (p : ℕ) {r : FinalAnswer} → r ≡ final b seller buyer p → FinalByMessages b seller buyer p r
unfolding FinalByMessages
final_by_messages b seller buyer p q messages v = q ∙ final_as_sent b messages v.invariant seller buyer p

pub plain_run_says_yes : (b : Bytes) {r : PlainRunAnswer} → r ≡ plain_run b → PlainRunSaysYes b r
unfolding PlainRunSaysYes
plain_run_says_yes b q messages v = q ∙ says_yes b messages v.invariant

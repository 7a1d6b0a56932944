-- The contract of each call allows one outcome. A `Post` is the contract itself: a claim on the lent buffers' lives, the arguments, the answer, and the arguments as
-- they stand at the end. Nothing here is assumed of the code.
use Rattle.std.specs.Prelude.{◌≡◌}
use Rattle.laws.specs.Kit.{sym, ◌∙◌, List, ℕ}
use Rattle.export.proofs.tetherbay_check.Reads as check
use Rattle.export.proofs.tetherbay_checks_right.Reads as checks_right
use Rattle.export.proofs.tetherbay_seal.Reads as seal
use Rattle.export.proofs.tetherbay_id_well_formed.Reads as id_well_formed
use Rattle.export.proofs.tetherbay_eic.Reads as eic
use Rattle.export.proofs.tetherbay_eic_valid.Reads as eic_valid
use Rattle.export.proofs.tetherbay_quantity_read.Reads as quantity_read
use Rattle.export.proofs.tetherbay_quantity_print.Reads as quantity_print
use Rattle.export.proofs.tetherbay_reason_code.Reads as reason_code
use Rattle.export.proofs.tetherbay_reply.Reads as reply
use Rattle.export.proofs.book.tetherbay_sound.Reads as sound
use Rattle.export.proofs.book.tetherbay_open.Reads as opening
use Rattle.export.proofs.book.tetherbay_open_by.Reads as opening_by
use Rattle.export.proofs.book.tetherbay_convert.Reads as convert
use Rattle.export.proofs.book.tetherbay_clock.Reads as clock
use Rattle.export.proofs.book.tetherbay_enter_right.Reads as enter_right
use Rattle.export.proofs.book.tetherbay_submit.Reads as submit
use Rattle.export.proofs.book.tetherbay_judge.Reads as judge
use Rattle.export.proofs.book.tetherbay_mark.Reads as mark
use Rattle.export.proofs.book.tetherbay_final.Reads as final
use Rattle.export.proofs.book.tetherbay_settled.Reads as settled
use Rattle.export.proofs.book.tetherbay_plain_run.Reads as plain_run
use Rattle.export.proofs.book.tetherbay_listing.Reads as listing
use Rattle.export.proofs.parts.tetherbay_accepted_block.Reads as accepted_block
use Rattle.export.proofs.parts.tetherbay_series.Reads as series

-- two answers that a contract allows are one
abbrev pub OneAnswer : {K A R S : Type 0} → (K → A → R → S → Type 0) → Type 0
OneAnswer {K} {A} {R} {S} P = (k : K) (a : A) (answer other : R) (s t : S) → P k a answer s → P k a other t → answer ≡ other

-- and so are the bytes of the buffer that the call alters, whichever of its arguments that is
abbrev pub OneOutcome : {K A R S : Type 0} → (K → A → R → S → Type 0) → (S → List ℕ) → Type 0
OneOutcome {K} {A} {R} {S} P altered = (k : K) (a : A) (answer other : R) (s t : S) → P k a answer s → P k a other t → (answer ≡ other) × (altered s ≡ altered t)

-- ---- calls that alter a buffer

pub seal_determined : OneOutcome seal.Post (λ s. s.0.now)
seal_determined k a answer other s t p q = (p.0 ∙ sym q.0, p.1 ∙ sym q.1)

pub quantity_print_determined : OneOutcome quantity_print.Post (λ s. s.1.0.now)
quantity_print_determined k a answer other s t p q = (p.0 ∙ sym q.0, p.1 ∙ sym q.1)

pub open_determined : OneOutcome opening.Post (λ s. s.0.now)
open_determined k a answer other s t p q = (p.0.0 ∙ sym q.0.0, p.0.1 ∙ sym q.0.1)

pub open_by_determined : OneOutcome opening_by.Post (λ s. s.0.now)
open_by_determined k a answer other s t p q = (p.0.0 ∙ sym q.0.0, p.0.1 ∙ sym q.0.1)

pub convert_determined : OneOutcome convert.Post (λ s. s.0.now)
convert_determined k a answer other s t p q = (p.0.0 ∙ sym q.0.0, p.0.1 ∙ sym q.0.1)

pub clock_determined : OneOutcome clock.Post (λ s. s.0.now)
clock_determined k a answer other s t p q = (p.0.0 ∙ sym q.0.0, p.0.1 ∙ sym q.0.1)

pub enter_right_determined : OneOutcome enter_right.Post (λ s. s.0.now)
enter_right_determined k a answer other s t p q = (p.0.0 ∙ sym q.0.0, p.0.1 ∙ sym q.0.1)

pub submit_determined : OneOutcome submit.Post (λ s. s.0.now)
submit_determined k a answer other s t p q = (p.0.0 ∙ sym q.0.0, p.0.1 ∙ sym q.0.1)

pub listing_determined : OneOutcome listing.Post (λ s. s.1.0.now)
listing_determined k a answer other s t p q = (p.0 ∙ sym q.0, p.1 ∙ sym q.1)

-- ---- calls that alter nothing

pub check_determined : OneAnswer check.Post
check_determined k a answer other s t p q = p ∙ sym q

pub checks_right_determined : OneAnswer checks_right.Post
checks_right_determined k a answer other s t p q = p ∙ sym q

pub id_well_formed_determined : OneAnswer id_well_formed.Post
id_well_formed_determined k a answer other s t p q = p ∙ sym q

pub eic_determined : OneAnswer eic.Post
eic_determined k a answer other s t p q = p ∙ sym q

pub eic_valid_determined : OneAnswer eic_valid.Post
eic_valid_determined k a answer other s t p q = p ∙ sym q

pub quantity_read_determined : OneAnswer quantity_read.Post
quantity_read_determined k a answer other s t p q = p ∙ sym q

pub reason_code_determined : OneAnswer reason_code.Post
reason_code_determined k a answer other s t p q = p ∙ sym q

pub reply_determined : OneAnswer reply.Post
reply_determined k a answer other s t p q = p ∙ sym q

pub sound_determined : OneAnswer sound.Post
sound_determined k a answer other s t p q = p ∙ sym q

pub judge_determined : OneAnswer judge.Post
judge_determined k a answer other s t p q = p ∙ sym q

pub mark_determined : OneAnswer mark.Post
mark_determined k a answer other s t p q = p.0 ∙ sym q.0

pub final_determined : OneAnswer final.Post
final_determined k a answer other s t p q = p.0 ∙ sym q.0

pub settled_determined : OneAnswer settled.Post
settled_determined k a answer other s t p q = p ∙ sym q

pub plain_run_determined : OneAnswer plain_run.Post
plain_run_determined k a answer other s t p q = p.0 ∙ sym q.0

pub accepted_block_determined : OneAnswer accepted_block.Post
accepted_block_determined k a answer other s t p q = p.0.0 ∙ sym q.0.0

pub series_determined : OneAnswer series.Post
series_determined k a answer other s t p q = p.0 ∙ sym q.0

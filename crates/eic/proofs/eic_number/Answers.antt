-- A code that is not valid and has fifteen allowed characters in front has a wrong sixteenth, or is all zeros.
use Rattle.std.specs.Prelude.{◌≡◌, ◌≤◌, ◌<◌, ◌+◌}
use Rattle.laws.specs.Kit.{sym, ◌∙◌, false, ℕ, split, is_yes, is_no, less_true, less_false, ◌or◌, is, neg}
use Rattle.paper.specs.Layout.{Bytes}
use Rattle.paper.specs.Eic.{eic_sum, allowed_in_front, sixteenth_right, eic_number, eic_valid}
use Rattle.eic.proofs.eic_number.Goals as goal

first_named : (code : Bytes) (k : ℕ) → k ≡ allowed_in_front code → k < 15 → k + 1 ≡ eic_number code
unfolding eic_number
first_named code k e h = rw (sym e, less_true k 15 h)

last_named : (code : Bytes) (k : ℕ) → k ≡ allowed_in_front code → 15 ≤ k → eic_valid code ≡ false → 16 ≡ eic_number code
unfolding eic_number eic_valid
last_named code k e h v =
    split (is (eic_sum code) 0 or neg (sixteenth_right code))
    (λ t. rw (sym e, less_false k 15 h, t))
    (λ t. absurd (is_no _ _ v (rw (sym e, less_false k 15 h, t))))

pub returns-then-eic_valid : goal.returns-then-eic_valid
unfolding eic_valid
returns-then-eic_valid c = sym (is_yes _ _ (sym c.eic_valid.ensures ∙ c.if-eic_valid.true))

pub returns-then-k-lt15 : goal.returns-then-k-lt15
returns-then-k-lt15 c = first_named _ _ c.allowed_in_front-k.ensures c.if-k-lt15.true

pub returns-else-k-lt15 : goal.returns-else-k-lt15
returns-else-k-lt15 c = last_named _ _ c.allowed_in_front-k.ensures c.if-k-lt15.false (sym c.eic_valid.ensures ∙ c.if-eic_valid.false)

-- The book after a submission, by the number of its verdict v.
use Rattle.std.specs.Prelude.{◌≡◌}
use Rattle.laws.specs.Kit.{sym, ap, ◌∙◌, is_equal, is_other}
use Rattle.paper.specs.declared.Verdict.{Verdict}
use Rattle.paper.specs.Layout.{Bytes}
use Rattle.paper.specs.Rules.{number_of, verdict}
use Rattle.paper.specs.Acceptance.{accepted, submitted}
use Rattle.accept.specs.Fits.{Fits}
use Rattle.accept.specs.Passed.{passed_fits}

module _ (book message : Bytes) (v : Verdict) (e : v ≡ verdict book message) where
  pub submitted_refused : (number_of v ≡ 0 → ⊥) → book ≡ submitted book message
  unfolding submitted
  submitted_refused n = sym (rw (is_other (number_of (verdict book message)) 0 (λ z. n (ap number_of e ∙ z))))

  pub submitted_accepted : number_of v ≡ 0 → {after : Bytes} → after ≡ accepted book message → after ≡ submitted book message
  unfolding submitted
  submitted_accepted z a = a ∙ sym (rw (is_equal (number_of (verdict book message)) 0 (sym (ap number_of e) ∙ z)))

  pub accepted_fits : number_of v ≡ 0 → Fits book message
  accepted_fits z = passed_fits book message (sym (ap number_of e) ∙ z)

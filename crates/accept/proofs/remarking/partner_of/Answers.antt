-- Without a number there is none; with one the row is told by whose the series is.
use Rattle.laws.specs.Kit.{sym, ◌∙◌, is, is_equal, is_other, is_yes, is_no}
use Rattle.accept.specs.Steps.{partner_by}
use Rattle.accept.proofs.remarking.partner_of.Goals as goal

pub returns-then-number-eq0 : goal.returns-then-number-eq0
unfolding partner_by
returns-then-number-eq0 c = sym (rw (is_equal _ _ c.if-number-eq0.true))

pub returns-then-eq : goal.returns-then-eq
unfolding partner_by is
returns-then-eq c =
    c.wide.ensures ∙ sym (rw (is_other _ _ c.if-number-eq0.false, is_equal _ _ (sym c.senders_slot.ensures ∙ is_yes _ _ (sym c.eq.ensures ∙ c.if-eq.true))))

pub returns : goal.returns
unfolding partner_by is
returns c =
    c.wide-2.ensures ∙ sym (rw (is_other _ _ c.if-number-eq0.false, is_other _ _ (λ q. is_no _ _ (sym c.eq.ensures ∙ c.if-eq.false) (c.senders_slot.ensures ∙ q))))

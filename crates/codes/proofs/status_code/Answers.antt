-- The acceptance, a refusal without a code, one with a code.
use Rattle.laws.specs.Kit.{sym, ◌∙◌, is_equal, is_other}
use Rattle.paper.specs.Codes.{status_code}
use Rattle.codes.proofs.status_code.Goals as goal

pub returns-then-number-eq0 : goal.returns-then-number-eq0
unfolding status_code
returns-then-number-eq0 c = rw (is_equal _ 0 c.if-number-eq0.true)

pub returns-then-code-eq0 : goal.returns-then-code-eq0
unfolding status_code
returns-then-code-eq0 c = rw (is_other _ 0 c.if-number-eq0.false, is_equal _ 0 (sym c.requires ∙ c.if-code-eq0.true))

pub returns : goal.returns
unfolding status_code
returns c = rw (is_other _ 0 c.if-number-eq0.false, is_other _ 0 (λ e. c.if-code-eq0.false (c.requires ∙ e)))

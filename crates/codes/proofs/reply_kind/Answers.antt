-- 1, 17 and 40 are known by number, the mail by the missing code.
use Rattle.laws.specs.Kit.{sym, ◌∙◌, ◌or◌, is, is_equal, is_other}
use Rattle.paper.specs.Codes.{reply_kind}
use Rattle.codes.proofs.reply_kind.Goals as goal

pub returns-then-number : goal.returns-then-number
unfolding reply_kind ◌or◌ is
returns-then-number c = rw c.if-number.true

pub returns-then-code-eq0 : goal.returns-then-code-eq0
unfolding reply_kind ◌or◌ is
returns-then-code-eq0 c = rw (c.if-number.false, is_equal _ 0 (sym c.requires ∙ c.if-code-eq0.true))

pub returns : goal.returns
unfolding reply_kind ◌or◌ is
returns c = rw (c.if-number.false, is_other _ 0 (λ e. c.if-code-eq0.false (c.requires ∙ e)))

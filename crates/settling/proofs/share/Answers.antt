-- The value where the party is on this side, else nothing.
use Rattle.laws.specs.Kit.{arith, sym, ◌∙◌}
use Rattle.settling.proofs.share.Goals as goal

pub returns-then-same : goal.returns-then-same
returns-then-same c = (rw (sym c.same.ensures ∙ c.if-same.true), omega arith)

pub returns : goal.returns
returns c = (rw (sym c.same.ensures ∙ c.if-same.false), omega arith)

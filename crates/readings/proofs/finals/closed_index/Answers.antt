-- Each refusal is the definition's, in its order.
use Rattle.laws.specs.Kit.{arith, sym, ◌∙◌}
use Rattle.readings.proofs.Laws.Final.{no_position, above_n_lem, still_open, is_closed}
use Rattle.readings.proofs.finals.closed_index.Goals as goal

pub returns-then-p-eq0 : goal.returns-then-p-eq0
returns-then-p-eq0 c = (no_position _ _ c.if-p-eq0.true, tt)

pub returns-then-n_of-p : goal.returns-then-n_of-p
returns-then-n_of-p c = (above_n_lem _ _ c.if-p-eq0.false (rw c.n_of.ensures at c.if-n_of-p.true), tt)

pub returns-then-not-closed : goal.returns-then-not-closed
returns-then-not-closed c =
    (still_open _ _ c.if-p-eq0.false (rw c.n_of.ensures at c.if-n_of-p.false) (sym c.closed.ensures ∙ c.if-not-closed.true), tt)

pub returns : goal.returns
returns c =
    (is_closed _ _ c.if-p-eq0.false (rw c.n_of.ensures at c.if-n_of-p.false) (sym c.closed.ensures ∙ c.if-not-closed.false), omega arith)

-- The branches are the definition's.
use Rattle.laws.specs.Kit.{◌∙◌, is}
use Rattle.paper.specs.Layout.{same_rule}
use Rattle.paper.specs.Finals.{final_of}
use Rattle.readings.proofs.Laws.Held.{lesser_min}
use Rattle.readings.proofs.finals.final_of.Goals as goal

pub returns-then-eq : goal.returns-then-eq
unfolding final_of same_rule is
returns-then-eq c = rw (← c.if-eq.ensures) (c.min.ensures ∙ lesser_min _ _)

pub returns : goal.returns
unfolding final_of same_rule is
returns c = rw (← c.if-eq.ensures)

-- Which of the two parties holds the pair is told by the places of their series, and so is what each holds.
use Rattle.laws.specs.Kit.{◌∙◌, ◌and◌, is}
use Rattle.readings.proofs.Laws.Held.{held_none, held_some}
use Rattle.readings.proofs.finals.final_held.Goals as goal

pub returns-then-eq : goal.returns-then-eq
unfolding ◌and◌ is
returns-then-eq c =
    c.final_refused.ensures ∙ held_none _ _ _ _ _ _ _ c.held-sellers.ensures c.held-buyers.ensures (rw (c.eq.ensures, c.eq-2.ensures) at c.if-eq.true)

pub returns : goal.returns
unfolding ◌and◌ is
returns c =
    rw (c.final_of.ensures, c.held_at-2.ensures, c.held_at.ensures) (held_some _ _ _ _ _ _ _ c.held-sellers.ensures c.held-buyers.ensures (rw (c.eq.ensures, c.eq-2.ensures) at c.if-eq.false))

-- Parties and agreement, types and areas are all that a key holds.
use Rattle.laws.specs.Kit.{not, ap, ◌∙◌, ◌and◌}
use Rattle.slots.proofs.Laws.{key_other, key_rest}
use Rattle.slots.proofs.same_key.Goals as goal

pub returns-then-not-same : goal.returns-then-not-same
returns-then-not-same c =
    key_other _ _ c.parties_and_agreement.ensures c.parties_and_agreement-2.ensures c.same.ensures (ap not c.if-not-same.true)

pub returns : goal.returns
unfolding ◌and◌
returns c =
    (simp (c.same-3.ensures, c.areas-2.ensures, c.areas.ensures, c.same-2.ensures, c.types-2.ensures, c.types.ensures))
    ∙ key_rest _ _ c.parties_and_agreement.ensures c.parties_and_agreement-2.ensures c.same.ensures (ap not c.if-not-same.false)

-- The field is cut where the first list ends, and each piece is compared with its list.
use Rattle.laws.specs.Kit.{◌and◌}
use Rattle.readings.proofs.Laws.Joined.{joined_short, joined_long}
use Rattle.readings.proofs.finals.same_joined.Goals as goal

pub returns-then-s-a : goal.returns-then-s-a
returns-then-s-a c = let a = c.args in joined_short a.s.now a.a.now a.b.now c.if-s-a.true

pub returns : goal.returns
unfolding ◌and◌
returns c =
    let a = c.args in
    joined_long a.s.now a.a.now a.b.now c.same.ensures c.same-2.ensures

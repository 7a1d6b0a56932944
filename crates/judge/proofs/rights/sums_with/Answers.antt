-- A series on no right leaves the sums, one on theirs is added, and another's begin anew.
use Rattle.laws.specs.Kit.{arith, refl}
use Rattle.judge.proofs.Laws.Sums.{most_up, most_room, kept_still, kept_more, kept_anew}
use Rattle.judge.proofs.rights.sums_with.Goals as goal

pub returns-then-right-eq0 : goal.returns-then-right-eq0
returns-then-right-eq0 c = (kept_still _ _ _ _ _ c.requires.1 c.if-right-eq0.true, λ n. absurd (n c.if-right-eq0.true))

pub add_quantities-requires : goal.add_quantities-requires
add_quantities-requires c = let p = c.requires in most_up _ _ 199 (omega arith) p.1.most

pub returns-then-right-on : goal.returns-then-right-on
returns-then-right-on c =
    (kept_more _ _ _ _ _ _ _ c.requires.1 c.if-right-on.true c.if-right-eq0.false c.add_quantities.ensures c.block_at.ensures, λ n. refl)

pub sum_again-requires : goal.sum_again-requires
sum_again-requires c = let p = c.requires in (omega arith, most_room _ _ p.1.most)

pub returns : goal.returns
returns c = (kept_anew _ _ _ _ _ c.sum_again.ensures.0 c.sum_again.ensures.1, λ n. refl)

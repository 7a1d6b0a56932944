-- The first j series are summed.
use Rattle.std.specs.Prelude.{◌≡◌}
use Rattle.laws.specs.Kit.{arith, refl, is}
use Rattle.judge.proofs.Laws.Sums.{most_up, most_more, most_cleared, sums_cleared, sums_more}
use Rattle.judge.proofs.rights.sum_again.Goals as goal

pub clear-requires : goal.clear-requires
clear-requires c = c.requires.1

pub loop-j-init : goal.loop-j-init
loop-j-init c = (sums_cleared _ _ _ _ c.clear.ensures, most_cleared _ c.clear.ensures)

pub add_if-requires : goal.add_if-requires
add_if-requires c =
    most_up _ _ 199 (omega arith) c.loop-j.invariant.1

pub loop-j-preserved : goal.loop-j-preserved
unfolding is
loop-j-preserved c =
    let i = c.loop-j.invariant in
    (sums_more _ _ _ _ _ i.0 _ _ _ c.add_if.ensures refl c.block_at.ensures, most_more _ _ _ _ _ i.1 c.add_if.ensures)

pub returns : goal.returns
returns c =
    let l = c.loop-j in
    let e : l.j ≡ c.args.count = omega arith in
    (rw e at l.invariant.0, rw e at l.invariant.1)

-- A lane's check so far is that of the bytes passed from its start on, and 508 is 127 times four.
use Rattle.std.specs.Prelude.{◌≡◌, ◌+◌, ◌*◌}
use Rattle.laws.specs.Kit.{refl, sym, arith, zero-add, ◌and◌, is}
use Rattle.block.proofs.Laws.Turns.{lane_start, lane_more, lane_right}
use Rattle.block.proofs.check.four_right.Goals as goal

pub loop-k-init : goal.loop-k-init
loop-k-init c = (lane_start _ _, lane_start _ _, lane_start _ _, lane_start _ _)

pub loop-k-preserved : goal.loop-k-preserved
loop-k-preserved c = let l = c.loop-k in
    let i = 4 * l.k in
    let e : 4 * (l.k + 1) ≡ i + 4 = omega arith in rw e (
      lane_more 0 i _ (sym (zero-add i)) l.invariant.0 c.check_four_at-a.ensures,
      lane_more 512 i _ refl l.invariant.1 c.check_four_at-b.ensures,
      lane_more 1024 i _ refl l.invariant.2 c.check_four_at-c.ensures,
      lane_more 1536 i _ refl l.invariant.3 c.check_four_at-d.ensures,
    )

pub returns : goal.returns
unfolding ◌and◌ is
returns c =
    let l = c.loop-k in
    let e : 4 * l.k ≡ 508 = omega arith in
    rw (
      lane_right 0 _ _ e c.whole_4.ensures l.invariant.0,
      lane_right 512 _ _ e c.whole_4-2.ensures l.invariant.1,
      lane_right 1024 _ _ e c.whole_4-3.ensures l.invariant.2,
      lane_right 1536 _ _ e c.whole_4-4.ensures l.invariant.3,
    )

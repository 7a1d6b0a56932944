-- Count and first are those of the positions passed: one that differs raises the count, and is the first where there was none.
use Rattle.laws.specs.Kit.{arith, sym, ◌∙◌}
use Rattle.marks.proofs.Laws.{found_most, found_all, found_same, found_none, found_equal, found_other, first_stays, first_above}
use Rattle.marks.proofs.compare.Goals as goal
use Rattle.marks.proofs.compare.Goals.{then-quantity, else-quantity}

pub returns-then-same : goal.returns-then-same
returns-then-same c =
    let f = found_same _ _ _ (rw (c.quantities.ensures, c.quantities-2.ensures) at (sym c.same.ensures ∙ c.if-same.true)) in
    (f.count, f.first, omega arith, omega arith)

pub loop-k-init : goal.loop-k-init
loop-k-init c = (found_none _ _, tt)

pub overflow_add-count : goal.overflow_add-count
overflow_add-count c = omega (arith, (found_most _ _ _ _ _ c.loop-k.invariant.0).0)

pub loop-k-preserved : goal.loop-k-preserved
loop-k-preserved c =
    let i = c.loop-k.invariant in elim c.if-quantity.branch [
      | then-quantity w ↦ rw (w.count-is, w.first-is, w.or-first.ensures) (
        found_other _ _ _ _ _ (omega arith) c.quantity.ensures c.quantity-in-loop-k.ensures _ _ i.0 w.if-quantity.true _ (first_stays _ i.1 _),
        first_above _ i.1 _ (omega arith),
      )
      | else-quantity w ↦ rw (w.count-is, w.first-is) (found_equal _ _ _ _ _ (omega arith) c.quantity.ensures c.quantity-in-loop-k.ensures _ _ i.0 w.if-quantity.false, i.1)
    ]

pub returns : goal.returns
returns c =
    let i = found_all _ _ _ _ _ _ c.loop-k.auto.k-end c.loop-k-test.false c.loop-k.invariant.0 in
    let m = found_most _ _ _ _ _ i in
    (i.count, i.first, m.0, m.1)

-- Nothing is put again; else the party's line stands behind the others, and its sums are added.
use Rattle.laws.specs.Kit.{arith}
use Rattle.settlement_text.proofs.Laws.{filled_again, filled_more}
use Rattle.settlement_text.proofs.put_unless.Goals as goal

pub returns-then-again : goal.returns-then-again
returns-then-again c = (λ names begun x f. filled_again _ _ _ f _ c.if-again.true, omega arith, omega arith)

pub overflow_add-result : goal.overflow_add-result
overflow_add-result c = omega (arith, c.sums_of-sums.ensures.3)

pub returns : goal.returns
returns c =
    let e = c.sums_of-sums.ensures in
    (λ names begun x f. filled_more _ _ _ f _ c.if-again.false e.1 e.2 c.put_sums.ensures, omega (arith, e.3), omega (arith, e.4))

-- The parties of the first i blocks have their lines.
use Rattle.laws.specs.Kit.{arith}
use Rattle.laws.specs.Cut.Laws.{cut_length}
use Rattle.settlement_text.proofs.Laws.{filled_none, filled_as, all_named}
use Rattle.std.proofs.Common.{rules}
use Rattle.settlement_text.proofs.put_all_parties.Goals as goal

pub loop-i-init : goal.loop-i-init
loop-i-init c = (search rules, filled_none _ _ _ _ _ c.requires.1, omega arith, omega arith)

pub put_parties-sheet-requires : goal.put_parties-sheet-requires
put_parties-sheet-requires c =
    let p = c.requires in
    let v = c.loop-i.invariant in
    (p.0, c.loop-i-test.true, omega (arith, p.0, c.loop-i-test.true, v.2), omega (arith, p.0, c.loop-i-test.true, v.3))

pub loop-i-preserved : goal.loop-i-preserved
loop-i-preserved c =
    let e = c.put_parties-sheet.ensures in
    let v = c.loop-i.invariant in
    (search rules, e.0 _ _ v.1, omega (arith, e.1, v.2), omega (arith, e.2, v.3))

pub returns : goal.returns
returns c =
    let v = c.loop-i.invariant in
    filled_as _ _ _ v.1 (all_named _ _ _ (cut_length 512 _) c.loop-i.auto.i-end c.loop-i-test.false)

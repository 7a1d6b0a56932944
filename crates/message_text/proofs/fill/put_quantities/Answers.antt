-- The quantities still to write, over the block as it stands, give what all of them give over the block as it came.
use Rattle.laws.specs.Kit.{refl}
use Rattle.message_text.proofs.Laws.Fields.{spread_more, spread_end}
use Rattle.std.proofs.Common.{rules}
use Rattle.message_text.proofs.fill.put_quantities.Goals as goal

pub loop-k-init : goal.loop-k-init
loop-k-init c = (search rules, refl)

pub loop-k-preserved : goal.loop-k-preserved
loop-k-preserved c =
    let l = c.loop-k in
    let a = c.args in
    (search rules, spread_more a.last a.kilowatts l.block _ l.k c.loop-k-test.true c.write_quantity.ensures l.invariant.1)

pub returns : goal.returns
returns c = let l = c.loop-k in let a = c.args in spread_end a.last a.kilowatts l.block l.k c.loop-k-test.false l.invariant.1

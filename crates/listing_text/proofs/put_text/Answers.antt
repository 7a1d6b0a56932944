-- The bytes still to put, over the buffer as it stands, give what all of them give over the buffer as it came.
use Rattle.laws.specs.Kit.{arith, step_byte, end_list}
use Rattle.listing_text.proofs.Laws.{text_start, text_turn, text_end}
use Rattle.std.proofs.Common.{rules}
use Rattle.listing_text.proofs.put_text.Goals as goal

pub loop-i-init : goal.loop-i-init
loop-i-init c = (search rules, search rules, text_start _ _ _)

pub loop-i-preserved : goal.loop-i-preserved
loop-i-preserved c =
    (search rules, search rules, text_turn _ _ _ _ (step_byte _ _ c.loop-i-test.true) c.loop-i.invariant.2 c.put_byte.ensures)

pub returns : goal.returns
returns c =
    let l = c.loop-i in
    record { place = omega (arith, l.invariant.0, c.loop-i-test.false); bytes = text_end _ _ _ l.i (end_list _ _ c.loop-i-test.false) l.invariant.2 }

-- The digits still to write, over the buffer as it stands, give what all of them give over the buffer as it came.
use Rattle.quantity.proofs.Laws.Printing.{put_turn, put_end}
use Rattle.std.proofs.Common.{rules}
use Rattle.quantity.proofs.digits.put_last_digits.Goals as goal

pub loop-i-preserved : goal.loop-i-preserved
loop-i-preserved c =
    let l = c.loop-i in
    (search rules, rw c.put_byte.ensures (put_turn l.buffer _ l.i l.rest c.loop-i-test.true l.invariant.1))

pub returns : goal.returns
returns c = put_end _ _ _ _ c.loop-i-test.false c.loop-i.invariant.1

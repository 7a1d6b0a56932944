-- The bytes still to write, over the block as it stands, give what all of them give over the block as it came.
use Rattle.laws.specs.Kit.{refl, length-set}
use Rattle.layout.specs.Written.{with_field}
use Rattle.layout.proofs.Laws.{pad_start, pad_more, pad_end}
use Rattle.layout.proofs.write.write_field.Goals as goal

pub loop-i-init : goal.loop-i-init
loop-i-init c = (refl, pad_start _ _ _ _)

pub loop-i-preserved : goal.loop-i-preserved
loop-i-preserved c =
    let l = c.loop-i in
    (simp length-set l.invariant.0, pad_more _ _ _ _ l.i _ c.loop-i-test.true c.byte_or_zero.ensures l.invariant.1)

pub returns : goal.returns
unfolding with_field
returns c = pad_end _ _ _ _ _ c.loop-i-test.false c.loop-i.invariant.1

-- The check so far and the bytes that are left still give the whole check.
use Rattle.laws.specs.Kit.{sym, ◌∙◌}
use Rattle.facts.specs.Check.{check_from_more, check_from_end}
use Rattle.block.proofs.check.check_from.Goals as goal

pub loop-x-preserved : goal.loop-x-preserved
loop-x-preserved c = let s = c.args.s.now in rw c.check_step-c.ensures (sym (check_from_more c.loop-x.c c.loop-x.x-index s c.loop-x-test.true) ∙ c.loop-x.invariant)

pub returns : goal.returns
returns c = sym (check_from_end c.loop-x.c c.loop-x.x-index c.args.s.now c.loop-x-test.false) ∙ c.loop-x.invariant

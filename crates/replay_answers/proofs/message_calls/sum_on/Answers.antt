-- The sum so far and the bytes that are left still give the whole sum.
use Rattle.laws.specs.Kit.{sym, ◌∙◌}
use Rattle.facts.specs.Check.{check_from_more, check_from_end}
use Rattle.std.proofs.Common.{rules}
use Rattle.replay_answers.proofs.message_calls.sum_on.Goals as goal

pub loop-x-preserved : goal.loop-x-preserved
loop-x-preserved c = let r = c.args.series.now in
    (search rules, rw c.check_step-s.ensures (sym (check_from_more c.loop-x.s c.loop-x.x-index r c.loop-x-test.true) ∙ c.loop-x.invariant.1))

pub returns : goal.returns
returns c = sym (check_from_end c.loop-x.s c.loop-x.x-index c.args.series.now c.loop-x-test.false) ∙ c.loop-x.invariant.1

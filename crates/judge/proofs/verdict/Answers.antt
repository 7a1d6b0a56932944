-- The verdict is that of the judgement.
use Rattle.laws.specs.Kit.{◌∙◌}
use Rattle.judge.proofs.verdict.Goals as goal

pub returns-in-Ok : goal.returns-in-Ok
returns-in-Ok c = c.fine.ensures ∙ c.in-Ok.ensures.verdict.verdict

pub returns-in-Err : goal.returns-in-Err
returns-in-Err c = c.in-Err.ensures.verdict.verdict

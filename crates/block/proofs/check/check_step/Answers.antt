-- 31 times the check and the byte, both modulo 4,294,967,296, are the step.
use Rattle.laws.specs.Kit.{refl}
use Rattle.block.proofs.Laws.Steps.{stepped}
use Rattle.block.proofs.check.check_step.Goals as goal

pub returns : goal.returns
returns c = let a = c.args in stepped a.c a.byte c.thirty_one_times.ensures refl

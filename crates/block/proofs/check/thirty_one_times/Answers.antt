-- Five doublings make 32 times x modulo 4,294,967,296, and a difference takes x away again.
use Rattle.laws.specs.Kit.{arith, refl}
use Rattle.block.proofs.Laws.Steps.{doubled}
use Rattle.block.proofs.check.thirty_one_times.Goals as goal

pub returns : goal.returns
returns c = doubled c.args.x _ (omega arith) (omega arith) refl refl refl refl refl (omega arith)

-- No count, no code.
use Rattle.laws.specs.Kit.{refl}
use Rattle.readings.proofs.mark_refused.Goals as goal

pub returns : goal.returns
returns c = refl

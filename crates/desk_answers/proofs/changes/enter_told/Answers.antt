-- The number told is the entering's.
use Rattle.laws.specs.Kit.{refl}
use Rattle.desk_answers.proofs.changes.enter_told.Goals as goal

pub returns : goal.returns
returns c = (rw (← c.enter_right-number.ensures.0) (record { answer = refl; line = c.enter_line-length.ensures }), c.enter_right-number.ensures.1)

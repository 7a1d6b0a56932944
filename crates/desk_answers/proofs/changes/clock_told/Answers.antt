-- The answer told is the clock's.
use Rattle.laws.specs.Kit.{refl}
use Rattle.desk_answers.proofs.changes.clock_told.Goals as goal

pub returns : goal.returns
returns c = (rw (← c.clock-answer.ensures.0) (record { answer = refl; line = c.clock_line-length.ensures }), c.clock-answer.ensures.1)

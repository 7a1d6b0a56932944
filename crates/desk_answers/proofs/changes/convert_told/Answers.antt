-- The number told is the conversion's.
use Rattle.laws.specs.Kit.{refl}
use Rattle.desk_answers.proofs.changes.convert_told.Goals as goal

pub returns : goal.returns
returns c = (rw (← c.convert-number.ensures.0) (record { answer = refl; line = c.conversion_line-length.ensures }), c.convert-number.ensures.1)

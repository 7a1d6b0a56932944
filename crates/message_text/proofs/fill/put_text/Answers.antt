-- Both places are written, and the test is the definition's.
use Rattle.laws.specs.Kit.{refl, arith, upto}
use Rattle.message_text.specs.MessageText.{with_text}
use Rattle.message_text.proofs.fill.put_text.Goals as goal

pub write_field-requires : goal.write_field-requires
write_field-requires c = omega (arith, c.most-width.ensures.1)

pub overflow_sub-last : goal.overflow_sub-last
overflow_sub-last c = omega (arith, c.most-width.ensures.1)

pub overflow_add-last : goal.overflow_add-last
overflow_add-last c = omega (arith, c.most-width.ensures.1)

pub write_field-requires-2 : goal.write_field-requires-2
write_field-requires-2 c = omega (arith, c.most-width.ensures.1)

pub returns : goal.returns
unfolding with_text upto
returns c =
    rw (← c.most-width.ensures.0, ← c.write_field.ensures) (refl, c.write_field-2.ensures)

-- The code asks the definition's questions in its order.
use Rattle.laws.specs.Kit.{is_equal, is_other, less_true, less_false}
use Rattle.message_text.specs.MessageText.{in_field}
use Rattle.message_text.proofs.fill.put_value.Goals as goal

pub returns-then-field-eq0 : goal.returns-then-field-eq0
unfolding in_field
returns-then-field-eq0 c = rw (is_equal _ _ c.if-field-eq0.true) c.put_positions.ensures

pub returns-then-field-lt8 : goal.returns-then-field-lt8
unfolding in_field
returns-then-field-lt8 c = rw (is_other _ _ c.if-field-eq0.false, less_true _ _ c.if-field-lt8.true) c.put_number.ensures

pub returns : goal.returns
unfolding in_field
returns c = rw (is_other _ _ c.if-field-eq0.false, less_false _ _ c.if-field-lt8.false) c.put_text.ensures

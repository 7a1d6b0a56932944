-- The code asks what the definition asks; an id that has room is written over sixteen zero bytes.
use Rattle.laws.specs.Kit.{less_true, less_false}
use Rattle.desk_text.specs.Arguments.{id_field}
use Rattle.desk_text.proofs.arguments.id_field.Goals as goal

pub returns-then-id-le16 : goal.returns-then-id-le16
unfolding id_field
returns-then-id-le16 c = rw (less_false _ _ c.if-id-le16.true) c.put.ensures.text

pub returns-else-id-le16 : goal.returns-else-id-le16
unfolding id_field
returns-else-id-le16 c = rw (less_true _ _ c.if-id-le16.false)

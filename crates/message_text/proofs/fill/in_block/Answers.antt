-- The field is the one that the block's kind has for the word.
use Rattle.message_text.specs.MessageText.{in_block}
use Rattle.message_text.proofs.fill.in_block.Goals as goal

pub returns : goal.returns
unfolding in_block
returns c =
    rw (← c.kind.ensures, ← c.field_of-field.ensures.0) c.put_value.ensures

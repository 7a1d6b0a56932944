-- The bytes are the number's two lowest, and the test is the definition's.
use Rattle.laws.specs.Kit.{refl, ◌and◌, ◌or◌, is, less}
use Rattle.laws.specs.Bytes.{little}
use Rattle.message_text.specs.MessageText.{with_number}
use Rattle.message_text.proofs.fill.put_number.Goals as goal

pub returns : goal.returns
unfolding with_number little ◌and◌ ◌or◌ is less
returns c =
    rw (← c.number_of-x.ensures) (refl, c.write_field.ensures)

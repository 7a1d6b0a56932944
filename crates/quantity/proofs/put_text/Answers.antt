-- The whole megawatts, the point and the three digits are written one after the other, each where the one before it ends.
use Rattle.quantity.proofs.Laws.Printing.{text_written}
use Rattle.quantity.proofs.put_text.Goals as goal

pub returns : goal.returns
returns c =
    rw c.put_last_digits.ensures (text_written _ _ _ _ _ c.decimal-k.ensures.0 c.decimal-k.ensures.2 c.put_byte.ensures)

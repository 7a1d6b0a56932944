-- The higher digit, then the lower.
use Rattle.stream.specs.Line.{hex_byte}
use Rattle.stream.proofs.line.put_hex_byte.Goals as goal

pub returns : goal.returns
unfolding hex_byte
returns c =
    rw (← c.hex_digit.ensures, ← c.hex_digit-2.ensures) c.put.ensures

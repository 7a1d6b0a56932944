-- The bytes of a number are its remainders by 256, set one after the other.
use Rattle.laws.specs.Bytes.{written, little}
use Rattle.block.proofs.numbers.write_first_2.Goals as goal

pub returns : goal.returns
unfolding written little
returns c = simp (c.put_byte-2.ensures, c.put_byte.ensures, c.to_le_bytes-bytes.ensures)

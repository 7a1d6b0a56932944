-- It is the definition's second case.
use Rattle.laws.specs.Kit.{is}
use Rattle.stream.specs.Buffer.{buffer_numbers}
use Rattle.stream.proofs.buffer.sum_told.Goals as goal

pub returns : goal.returns
unfolding buffer_numbers is
returns c = rw c.check_bytes.ensures at c.«of».ensures

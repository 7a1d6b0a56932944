-- It is the definition's first case.
use Rattle.laws.specs.Kit.{is}
use Rattle.stream.specs.Buffer.{buffer_numbers}
use Rattle.stream.proofs.buffer.length_told.Goals as goal

pub returns : goal.returns
unfolding buffer_numbers is
returns c = c.«of».ensures

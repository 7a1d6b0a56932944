-- The test compares the number in bytes 508 to 511 with the check.
use Rattle.laws.specs.Tests.{is}
use Rattle.paper.specs.Check.{check_right}
use Rattle.block.proofs.check.check_right.Goals as goal

pub returns : goal.returns
unfolding check_right is
returns c = simp (c.number_4.ensures, c.check_of.ensures)

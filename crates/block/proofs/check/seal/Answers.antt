-- The check is taken of the block as it came, and written into its last four bytes.
use Rattle.paper.specs.Check.{sealed}
use Rattle.block.proofs.check.seal.Goals as goal

pub returns : goal.returns
unfolding sealed
returns c = simp (c.write_4.ensures, c.check_of-check.ensures)

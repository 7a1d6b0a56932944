-- The receiver's code is told of where the area's is good.
use Rattle.paper.specs.Listing.{text}
use Rattle.desk_faults.specs.Faults.{opening_fault}
use Rattle.desk_faults.proofs.put_opening_fault.Goals as goal

pub returns : goal.returns
unfolding opening_fault text
returns c = c.put_fault_of.ensures

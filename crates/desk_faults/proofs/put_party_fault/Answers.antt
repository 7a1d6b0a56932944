-- The out party's code is told of where the in party's is good.
use Rattle.paper.specs.Listing.{text}
use Rattle.desk_faults.specs.Faults.{party_fault}
use Rattle.desk_faults.proofs.put_party_fault.Goals as goal

pub returns : goal.returns
unfolding party_fault text
returns c = rw (← c.in_party.ensures, ← c.out_party.ensures) c.put_fault_of.ensures

-- On 4 the sender's code is told of, else a party's.
use Rattle.laws.specs.Kit.{is_equal, is_other}
use Rattle.paper.specs.Listing.{text}
use Rattle.desk_faults.specs.Faults.{verdict_fault}
use Rattle.desk_faults.proofs.put_verdict_fault.Goals as goal

pub returns-then-verdict-eq4 : goal.returns-then-verdict-eq4
unfolding verdict_fault text
returns-then-verdict-eq4 c = rw (is_equal _ _ c.if-verdict-eq4.true, ← c.sender.ensures) c.put_fault_behind.ensures

pub returns : goal.returns
unfolding verdict_fault
returns c = rw (is_other _ _ c.if-verdict-eq4.false) c.put_party_fault.ensures

-- The second code is told of where the first is good.
use Rattle.desk_faults.proofs.put_fault_of.Goals as goal

pub returns-then-eic_valid : goal.returns-then-eic_valid
returns-then-eic_valid c = rw (← c.eic_valid.ensures, c.if-eic_valid.true) c.put_fault_behind.ensures

pub returns : goal.returns
returns c = rw (← c.eic_valid.ensures, c.if-eic_valid.false) c.put_fault_behind-2.ensures

-- Nothing, or the semicolon and then the words.
use Rattle.laws.specs.Kit.{is_equal, is_other}
use Rattle.paper.specs.Listing.{text}
use Rattle.desk_faults.specs.Faults.{fault_behind}
use Rattle.desk_text.specs.Put.Laws.{then}
use Rattle.desk_faults.proofs.put_fault_behind.Goals as goal

pub returns-then-character-eq0 : goal.returns-then-character-eq0
unfolding fault_behind
returns-then-character-eq0 c = rw (is_equal _ _ c.if-character-eq0.true) c.put.ensures

pub returns : goal.returns
unfolding fault_behind text
returns c = rw (is_other _ _ c.if-character-eq0.false) (then c.put-behind.ensures c.put_fault.ensures)

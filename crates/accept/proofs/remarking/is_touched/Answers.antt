-- The tests are the definition's.
use Rattle.laws.specs.Kit.{◌and◌, ◌or◌, neg, is}
use Rattle.accept.specs.Steps.{touched_by}
use Rattle.accept.proofs.remarking.is_touched.Goals as goal

pub returns : goal.returns
unfolding touched_by ◌and◌ ◌or◌ neg is
returns c = rw (c.eq.ensures, c.senders_slot.ensures, c.is_series.ensures)

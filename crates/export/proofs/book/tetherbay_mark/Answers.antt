-- The mark that is read is the kept one, which is the plain rule's.
use Rattle.export.proofs.Laws.Demand3.{mark_by_messages}
use Rattle.export.proofs.book.tetherbay_mark.Goals as goal

pub returns : goal.returns
returns c = record { value = c.mark.ensures; mark_by_messages = mark_by_messages _ _ _ c.mark.ensures }

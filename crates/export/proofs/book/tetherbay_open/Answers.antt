-- The opening gives what its definition gives, and that keeps demand 3.
use Rattle.export.proofs.Laws.Demand3.{opening_kept}
use Rattle.export.proofs.book.tetherbay_open.Goals as goal

pub returns : goal.returns
returns c = record { value = c.open.ensures; opening_keeps = opening_kept _ _ c.open.ensures }

-- The opening that names its rule gives what its definition gives, and that keeps demand 3.
use Rattle.export.proofs.Laws.Demand3.{opening_kept}
use Rattle.export.proofs.book.tetherbay_open_by.Goals as goal

pub returns : goal.returns
returns c = record { value = c.open_by.ensures; opening_keeps = opening_kept _ _ c.open_by.ensures }

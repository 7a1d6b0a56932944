-- A right entered gives what its definition gives, and that keeps demand 3.
use Rattle.export.proofs.Laws.Demand3.{entering_kept}
use Rattle.export.proofs.book.tetherbay_enter_right.Goals as goal

pub returns : goal.returns
returns c =
    let gives = c.enter_right.ensures in
    record { value = gives; entering_keeps = entering_kept _ _ gives.1 }

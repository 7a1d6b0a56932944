-- The clock move gives what its definition gives, and that keeps demand 3.
use Rattle.export.proofs.Laws.Demand3.{clock_kept}
use Rattle.export.proofs.book.tetherbay_clock.Goals as goal

pub returns : goal.returns
returns c =
    let gives = c.clock.ensures in
    record { value = gives; clock_keeps = clock_kept _ _ gives.1 }

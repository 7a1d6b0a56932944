-- The conversion gives what its definition gives, and demand 3 begins with that.
use Rattle.export.proofs.Laws.Demand3.{conversion_kept}
use Rattle.export.proofs.book.tetherbay_convert.Goals as goal

pub returns : goal.returns
returns c =
    let gives = c.convert.ensures in
    record { value = gives; conversion_keeps = conversion_kept _ gives }

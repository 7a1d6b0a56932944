-- The submission gives what its definition gives, and that keeps demand 3.
use Rattle.export.proofs.Laws.Demand3.{submission_kept}
use Rattle.export.proofs.book.tetherbay_submit.Goals as goal

pub returns : goal.returns
returns c =
    let gives = c.submit.ensures in
    record { value = gives; submission_keeps = submission_kept _ _ gives }

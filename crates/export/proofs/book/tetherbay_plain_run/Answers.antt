-- Where demand 3 holds, all that the plain run compares is equal.
use Rattle.export.proofs.Laws.Demand3.{plain_run_says_yes}
use Rattle.export.proofs.book.tetherbay_plain_run.Goals as goal

pub returns : goal.returns
returns c = record { value = c.plain_run.ensures; plain_run_says_yes = plain_run_says_yes _ c.plain_run.ensures }

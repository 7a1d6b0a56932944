-- The name is the definition's, and its end the one that was found.
use Rattle.stream.proofs.fields.name_from.Goals as goal

pub returns : goal.returns
returns c = (c.name.ensures, rw c.in_ok-end.was at c.name_end.ensures)

-- The series are linked, and each is sought along the links.
use Rattle.std.proofs.Common.{rules}
use Rattle.index.proofs.look_up.Goals as goal

pub returns : goal.returns
returns c = c.find_each.ensures _ _ (λ y n k. search rules)

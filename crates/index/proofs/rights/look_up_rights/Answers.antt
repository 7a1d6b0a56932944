-- The rights are linked, and each series' is sought along the links.
use Rattle.std.proofs.Common.{rules}
use Rattle.index.proofs.rights.look_up_rights.Goals as goal

pub returns : goal.returns
returns c = c.find_each.ensures _ _ (λ y n k. search rules)

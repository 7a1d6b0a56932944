-- Product and sum wrap: the remainder of a remainder is that of the whole.
use Rattle.index.specs.Tags.{mixed}
use Rattle.std.proofs.Common.{rules}
use Rattle.index.proofs.tags.mixed.Goals as goal

pub returns : goal.returns
unfolding mixed
returns c = search rules

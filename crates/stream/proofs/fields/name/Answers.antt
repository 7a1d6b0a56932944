-- The code is the definition.
use Rattle.stream.specs.Fields.{name_at}
use Rattle.stream.proofs.fields.name.Goals as goal

pub returns : goal.returns
unfolding name_at
returns c = cc

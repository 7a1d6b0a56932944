-- The code is the definition.
use Rattle.stream.specs.Fields.{rest_from}
use Rattle.stream.proofs.fields.rest_from.Goals as goal

pub returns : goal.returns
unfolding rest_from
returns c = c.part_of.ensures

-- The three tests are joined as the definition joins them.
use Rattle.laws.specs.Tests.{◌or◌}
use Rattle.paper.specs.Ids.{id_character}
use Rattle.field.proofs.id_character.Goals as goal

pub returns : goal.returns
unfolding id_character ◌or◌
returns c = cc

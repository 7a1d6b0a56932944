use Rattle.std.proofs.Common.{rules}
use Rattle.std.proofs.lemmas.Iterator.{YieldsList-from_slice}
use Rattle.laws.specs.Chains.{every_all}
use Rattle.paper.specs.Ids.{id_character}
use Rattle.field.proofs.all_id_characters.Goals as goal

pub returns : goal.returns
returns c = every_all id_character (YieldsList-from_slice _ c.iter.ensures.rest) (λ x b q k. search rules) c.all.ensures.ran

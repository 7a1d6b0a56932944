use Rattle.std.proofs.Common.{rules}
use Rattle.std.proofs.lemmas.Iterator.{YieldsList-from_slice}
use Rattle.laws.specs.Chains.{every_all}
use Rattle.paper.specs.Ids.{digit}
use Rattle.field.proofs.all_digits.Goals as goal

pub returns : goal.returns
returns c = every_all digit (YieldsList-from_slice _ c.iter.ensures.rest) (λ x b q k. search rules) c.all.ensures.ran

use Rattle.std.proofs.Common.{rules, tests}
use Rattle.laws.specs.Chains.{until_found}
use Rattle.laws.specs.Lists.Keep.{until_length}
use Rattle.std.proofs.lemmas.Iterator.{YieldsList-from_slice}
use Rattle.laws.specs.Kit.{is, ◌∙◌}
use Rattle.field.proofs.length_before.Goals as goal

pub returns : goal.returns
unfolding is
returns c =
    let found = c.unwrap_or.ensures ∙ until_found (λ y. is y c.args.x) (YieldsList-from_slice _ c.iter.ensures.rest) (λ x b q k. search (rules, tests)) c.position.ensures.ran in
    (found, rw found (until_length _ _))

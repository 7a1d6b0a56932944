-- The first of the front that has no value ends the run.
use Rattle.std.proofs.Common.{rules, tests}
use Rattle.std.proofs.lemmas.Iterator.{YieldsList-from_slice}
use Rattle.laws.specs.Kit.{ap, ◌∙◌, length, neg, is}
use Rattle.laws.specs.Chains.{until_found}
use Rattle.laws.specs.Lists.{until}
use Rattle.laws.specs.Bytes.{part}
use Rattle.paper.specs.Eic.{eic_character, allowed_in_front}
use Rattle.eic.proofs.allowed_in_front.Goals as goal

pub returns : goal.returns
unfolding allowed_in_front part eic_character neg is
returns c =
    c.unwrap_or.ensures ∙ until_found (λ x. neg (eic_character x)) (YieldsList-from_slice _ c.iter.ensures.rest) (λ x b q k. search (rules, tests)) c.position.ensures.ran
    ∙ ap (λ f. length (until (λ x. neg (eic_character x)) f)) c.part_of-front.ensures

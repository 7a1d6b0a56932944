-- The first byte that is no digit ends the run; all before it are digits.
use Rattle.std.proofs.Common.{rules, tests}
use Rattle.std.proofs.lemmas.Iterator.{YieldsList-from_slice}
use Rattle.laws.specs.Chains.{until_found}
use Rattle.laws.specs.Lists.Keep.{until_length, until_take}
use Rattle.laws.specs.Kit.{◌∙◌, neg}
use Rattle.paper.specs.Ids.{digit}
use Rattle.paper.specs.QuantityText.{leading_digits}
use Rattle.quantity.proofs.Laws.Reading.{run_digits}
use Rattle.quantity.proofs.digits.leading_digits.Goals as goal

pub returns : goal.returns
unfolding neg leading_digits
returns c =
    let found = c.unwrap_or.ensures ∙ until_found (λ x. neg (digit x)) (YieldsList-from_slice _ c.iter.ensures.rest) (λ x b q k. search (rules, tests)) c.position.ensures.ran in
    (found, rw found (until_length _ _), run_digits _ _ found)

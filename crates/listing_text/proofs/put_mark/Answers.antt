-- Each number is the definition's.
use Rattle.listing_text.specs.Text.{marks}
use Rattle.listing_text.proofs.Laws.{then}
use Rattle.listing_text.proofs.Laws.Line.{number_as}
use Rattle.std.proofs.Common.{rules}
use Rattle.listing_text.proofs.put_mark.Goals as goal

pub returns : goal.returns
unfolding marks
returns c =
    let count-first = then (number_as 32 c.differing-differing.ensures c.put_number-at.ensures.0) (number_as 32 c.first_number-first.ensures c.put_number-at-2.ensures.0) in
    (then count-first (number_as 10 c.partner_number-partner.ensures c.put_number.ensures.0), search rules)

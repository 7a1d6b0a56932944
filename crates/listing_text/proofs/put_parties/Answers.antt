-- Each party is sixteen bytes at most.
use Rattle.laws.specs.Kit.{arith}
use Rattle.listing_text.specs.Text.{parties}
use Rattle.listing_text.specs.Bound.{in_party_most, out_party_most}
use Rattle.listing_text.proofs.Laws.{then}
use Rattle.listing_text.proofs.Laws.Line.{word_as}
use Rattle.std.proofs.Common.{rules}
use Rattle.listing_text.proofs.put_parties.Goals as goal

pub put_word-at-requires : goal.put_word-at-requires
put_word-at-requires c = (omega arith, rw c.in_party.ensures (in_party_most _))

pub put_word-requires : goal.put_word-requires
put_word-requires c = (omega arith, rw c.out_party.ensures (out_party_most _))

pub returns : goal.returns
unfolding parties
returns c =
    (then (word_as 32 c.in_party.ensures c.put_word-at.ensures.0) (word_as 32 c.out_party.ensures c.put_word.ensures.0), search rules)

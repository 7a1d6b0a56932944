-- The lines stand behind the header.
use Rattle.laws.specs.Kit.{arith}
use Rattle.paper.specs.Listing.{text, header}
use Rattle.listing_text.specs.Text.{listing_of}
use Rattle.listing_text.proofs.Laws.{then}
use Rattle.std.proofs.Common.{rules}
use Rattle.listing_text.proofs.put_listing.Goals as goal

pub put_lines-requires : goal.put_lines-requires
put_lines-requires c = (omega (arith, c.put_text-at.ensures.place), search rules)

pub returns : goal.returns
unfolding listing_of header text
returns c =
    then c.put_text-at.ensures c.put_lines.ensures

-- The three parts one after the other are the line.
use Rattle.listing_text.specs.Bound.{line_parts}
use Rattle.listing_text.proofs.Laws.{then, put_as}
use Rattle.std.proofs.Common.{rules}
use Rattle.listing_text.proofs.put_line.Goals as goal

pub returns : goal.returns
returns c =
    (put_as (line_parts _ _ _) (then (then c.put_names-at.ensures.0 c.put_parties-at.ensures.0) c.put_mark.ensures.0), search rules)

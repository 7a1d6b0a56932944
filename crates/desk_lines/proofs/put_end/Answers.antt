-- The newline.
use Rattle.paper.specs.Listing.{text}
use Rattle.desk_lines.proofs.put_end.Goals as goal

pub returns : goal.returns
unfolding text
returns c = c.put.ensures

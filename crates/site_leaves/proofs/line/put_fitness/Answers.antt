-- Each text is the definition's.
use Rattle.paper.specs.Listing.{text}
use Rattle.site_leaves.proofs.line.put_fitness.Goals as goal

pub returns-then-right : goal.returns-then-right
unfolding text
returns-then-right c = rw c.if-right.true c.put.ensures

pub returns : goal.returns
unfolding text
returns c = rw c.if-right.false c.put-2.ensures

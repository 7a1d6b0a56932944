-- The version is read from the accepted block.
use Rattle.laws.specs.Kit.{ap, ◌∙◌}
use Rattle.paper.specs.Layout.{version}
use Rattle.paper.specs.Listing.{text}
use Rattle.cases.specs.Examples.{seller, id}
use Rattle.commission.proofs.book.kept_version.Goals as goal

pub returns : goal.returns
unfolding seller id text
returns c = c.version.ensures ∙ ap version c.accepted_block-block.ensures

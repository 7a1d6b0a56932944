-- The quantity is read where the definition reads it.
use Rattle.paper.specs.Layout.{entry}
use Rattle.readings.proofs.finals.held_at.Goals as goal

pub returns : goal.returns
unfolding entry
returns c = cc

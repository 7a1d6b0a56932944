-- Each number is read where the definition reads it.
use Rattle.laws.specs.Kit.{sym}
use Rattle.paper.specs.Clock.{day_state}
use Rattle.clock.proofs.day_state.Goals as goal

pub returns : goal.returns
unfolding day_state
returns c = rw (sym c.n_of.ensures, sym c.lead.ensures, sym c.clock.ensures)

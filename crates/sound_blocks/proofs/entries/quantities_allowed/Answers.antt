-- The entries up to n, and the positions above n as one part.
use Rattle.laws.specs.Kit.{◌and◌, rules}
use Rattle.paper.specs.Ranges.{quantity_allowed, quantities_allowed}
use Rattle.sound_blocks.proofs.entries.quantities_allowed.Goals as goal

pub returns : goal.returns
unfolding quantities_allowed ◌and◌
returns c = simp (c.all_zero.ensures, c.above_n.ensures, c.entries_allowed.ensures quantity_allowed (λ q r h e. search rules))

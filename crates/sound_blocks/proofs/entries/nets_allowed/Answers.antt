-- The entries up to n, and the positions above n as one part.
use Rattle.laws.specs.Kit.{◌and◌, rules}
use Rattle.paper.specs.Layout.{net, quantity}
use Rattle.paper.specs.Ranges.{net_allowed, nets_allowed}
use Rattle.sound_blocks.proofs.entries.nets_allowed.Goals as goal

pub returns : goal.returns
unfolding nets_allowed net quantity ◌and◌
returns c = simp (c.all_zero.ensures, c.above_n.ensures, c.entries_allowed.ensures net_allowed (λ q r h e. search rules))

-- Both sides of the comparison are the definition's.
use Rattle.laws.specs.Kit.{neg, upto}
use Rattle.paper.specs.Rules.{is_open, closed}
use Rattle.sound_blocks.proofs.day.closed.Goals as goal

pub returns : goal.returns
unfolding closed is_open neg upto
returns c = cc

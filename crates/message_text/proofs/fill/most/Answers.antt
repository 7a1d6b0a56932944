-- The lesser of the two.
use Rattle.laws.specs.Kit.{arith}
use Rattle.message_text.specs.MessageText.{most}
use Rattle.message_text.proofs.fill.most.Goals as goal

pub returns : goal.returns
unfolding most
returns c = (c.min.ensures, omega arith)

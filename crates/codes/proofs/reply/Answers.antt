-- Each part is what its function gives.
use Rattle.paper.specs.Codes.{reply_to}
use Rattle.codes.proofs.reply.Goals as goal

pub returns : goal.returns
unfolding reply_to
returns c = cc

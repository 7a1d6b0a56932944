-- The line's field is written, then the check.
use Rattle.message_text.proofs.fill_block.Goals as goal

pub returns : goal.returns
returns c = (cc, cc)

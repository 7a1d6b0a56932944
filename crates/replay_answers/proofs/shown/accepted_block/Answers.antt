-- The code asks whether two names fill the body, and the block shown is the one accepted under these names.
use Rattle.laws.specs.Kit.{arith}
use Rattle.desk_text.specs.Put.Laws.{none}
use Rattle.replay_answers.specs.Answers.{shown_block, block_line}
use Rattle.replay_answers.proofs.shown.accepted_block.Goals as goal

pub returns-in_err-sender : goal.returns-in_err-sender
unfolding block_line
returns-in_err-sender c = rw (c.from_residual.ensures, c.in_err-sender.ensures) (none 0 _ (omega arith))

pub returns : goal.returns
unfolding block_line shown_block
returns c =
    let n = c.in_ok-sender.ensures in
    rw n.0 (rw (c.accepted_block-block.ensures, n.1, n.2) at c.answer_with.ensures)

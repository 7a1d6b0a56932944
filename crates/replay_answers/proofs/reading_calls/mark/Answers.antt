-- The code asks whether two names fill the body, and the answer told is the mark's of these names.
use Rattle.replay_answers.specs.Answers.{mark_told, mark_numbers}
use Rattle.replay_answers.proofs.reading_calls.mark.Goals as goal

pub returns-in_err-sender : goal.returns-in_err-sender
unfolding mark_numbers
returns-in_err-sender c = rw (c.from_residual.ensures, c.in_err-sender.ensures)

pub returns : goal.returns
unfolding mark_numbers mark_told
returns c =
    let n = c.in_ok-sender.ensures in
    rw n.0 (rw (c.mark-m.ensures, n.1, n.2) at c.«of».ensures)

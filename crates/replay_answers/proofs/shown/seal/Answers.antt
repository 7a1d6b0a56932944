-- The block shown is the one sealed.
use Rattle.replay_answers.specs.Answers.{seal_line}
use Rattle.replay_answers.proofs.shown.seal.Goals as goal

pub returns : goal.returns
unfolding seal_line
returns c =
    rw (c.seal.ensures) at c.answer_with.ensures

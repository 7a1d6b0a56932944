-- The number told is that of the entering.
use Rattle.replay_answers.proofs.day_calls.right.Goals as goal

pub returns : goal.returns
returns c =
    let k = c.enter_right.ensures in
    (rw k.0 at c.«of».ensures, k.1)

-- The number told is the conversion's.
use Rattle.replay_answers.proofs.day_calls.convert.Goals as goal

pub returns : goal.returns
returns c =
    let k = c.convert.ensures in
    (rw k.0 at c.«of».ensures, k.1)

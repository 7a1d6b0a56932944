-- The tests are the definition's.
use Rattle.laws.specs.Kit.{◌and◌}
use Rattle.paper.specs.Sound.{same_sender}
use Rattle.sound.proofs.apart.same_sender.Goals as goal

pub returns : goal.returns
unfolding same_sender ◌and◌
returns c =
    simp (
      c.same.ensures,
      c.sender-2.ensures,
      c.sender.ensures,
      c.is_sender-2.ensures,
      c.is_sender.ensures,
    )

-- The tests are the definition's.
use Rattle.laws.specs.Kit.{◌or◌}
use Rattle.sound.specs.Used.{clashes}
use Rattle.sound.proofs.apart.clashes.Goals as goal

pub returns : goal.returns
unfolding clashes ◌or◌
returns c = simp (c.same_right.ensures, c.same_series.ensures, c.same_sender.ensures)

-- The tests are the definition's.
use Rattle.laws.specs.Kit.{◌and◌, ◌or◌, is}
use Rattle.paper.specs.Sound.{same_series}
use Rattle.sound.proofs.apart.same_series.Goals as goal

pub returns : goal.returns
unfolding same_series ◌and◌ ◌or◌ is
returns c =
    simp (
      c.same_key.ensures,
      c.same.ensures,
      c.id_of-2.ensures,
      c.id_of.ensures,
      c.eq.ensures,
      c.senders_slot-2.ensures,
      c.senders_slot.ensures,
      c.is_series-2.ensures,
      c.is_series.ensures,
    )

-- The two bytes of a number are those of its remainder by 65,536.
use Rattle.paper.specs.Layout.{with_senders_slot}
use Rattle.layout.proofs.Laws.{little_2}
use Rattle.layout.proofs.write.write_senders_slot.Goals as goal

pub returns : goal.returns
unfolding with_senders_slot
returns c =
    simp (c.write_2.ensures, little_2)

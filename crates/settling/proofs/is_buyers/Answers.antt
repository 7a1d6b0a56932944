-- The sender of the series is the one in its sender's slot.
use Rattle.settling.proofs.is_buyers.Goals as goal

pub returns : goal.returns
returns c =
    simp (c.same.ensures, c.sender.ensures, c.numbered.ensures, c.senders_slot.ensures, c.in_party.ensures)

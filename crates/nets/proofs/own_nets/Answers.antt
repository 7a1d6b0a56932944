-- The sums, raised from 0 by the sender's own series, are its nets.
use Rattle.laws.specs.Kit.{refl, ◌and◌, is, rules}
use Rattle.laws.specs.Lists.{every}
use Rattle.paper.specs.Layout.{zeros}
use Rattle.paper.specs.Book.{is_series_of}
use Rattle.nets.proofs.Laws.Nets.{few_cut}
use Rattle.nets.proofs.Laws.Words.{nets_own}
use Rattle.nets.proofs.own_nets.Goals as goal

pub returns : goal.returns
unfolding zeros every is ◌and◌
returns c =
    rw (← c.sender-e.ensures)
    (nets_own _ _ _ _ _ _ (few_cut c.args.us.now c.type_inv.us c.requires) refl c.slot_of-slot.ensures (c.add_those.ensures (is_series_of _) (λ x r e. search rules)))

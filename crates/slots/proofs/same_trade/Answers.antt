-- An external schedule has no parties to be paired by: both must be trades.
use Rattle.laws.specs.Kit.{◌∙◌, ◌and◌}
use Rattle.slots.proofs.Laws.{trade_same}
use Rattle.slots.proofs.same_trade.Goals as goal

pub returns : goal.returns
unfolding ◌and◌
returns c = (simp (c.same.ensures, c.pair-2.ensures, c.pair.ensures, c.is_trade-2.ensures, c.is_trade.ensures)) ∙ trade_same _ _

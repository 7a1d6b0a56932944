-- The tests are the definition's.
use Rattle.laws.specs.Kit.{◌and◌}
use Rattle.paper.specs.Settled.{is_trade_series}
use Rattle.settling.proofs.is_trade_series.Goals as goal

pub returns : goal.returns
unfolding is_trade_series ◌and◌
returns c = simp (c.is_trade.ensures, c.is_series.ensures)

-- Where the sender's slot differs, the rest of the test does not matter.
use Rattle.laws.specs.Kit.{sym, ◌and◌}
use Rattle.paper.specs.Book.{trade_is, is_trade_of}
use Rattle.laws.specs.Kit.{◌∙◌}
use Rattle.readings.proofs.finals.is_trade_between.Goals as goal

pub returns-then-not-is_series_of : goal.returns-then-not-is_series_of
unfolding is_trade_of ◌and◌
returns-then-not-is_series_of c = rw (sym c.is_series_of.ensures ∙ c.if-not-is_series_of.true)

pub returns : goal.returns
unfolding is_trade_of trade_is ◌and◌
returns c =
    rw ((sym c.is_series_of.ensures ∙ c.if-not-is_series_of.false), sym c.pair.ensures, sym c.is_trade.ensures, sym c.same_joined.ensures)

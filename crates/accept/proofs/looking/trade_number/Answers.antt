-- What the links find is the message's trade with the block's pair; an external schedule trades with none.
use Rattle.laws.specs.Kit.{arith}
use Rattle.accept.proofs.Laws.Looking.{number_sought, number_none, number_few}
use Rattle.laws.specs.Kit.{◌∙◌}
use Rattle.laws.specs.Kit.{sym}
use Rattle.accept.proofs.looking.trade_number.Goals as goal

pub returns-then-not-is_trade : goal.returns-then-not-is_trade
returns-then-not-is_trade c =
    (number_none _ c.requires.0 _ (sym c.is_trade.ensures ∙ c.if-not-is_trade.true), omega arith)

pub own_with-requires : goal.own_with-requires
own_with-requires c = c.requires.1

pub returns : goal.returns
returns c =
    let e = number_sought _ c.requires.0 _ c.own_with.ensures.0 in
    (e, number_few _ c.requires.0 _ _ e)

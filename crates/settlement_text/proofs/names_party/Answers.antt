-- The tests are the definition's.
use Rattle.laws.specs.Kit.{◌and◌, ◌or◌}
use Rattle.settlement_text.proofs.names_party.Goals as goal

pub returns : goal.returns
unfolding ◌and◌ ◌or◌
returns c =
    simp (c.same-2.ensures, c.out_party.ensures, c.same.ensures, c.in_party.ensures, c.is_trade_series.ensures)

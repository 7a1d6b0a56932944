-- By what is named, as in the definition.
use Rattle.paper.specs.Book.{id_is, key_is}
use Rattle.index.specs.Linked.{alike}
use Rattle.index.proofs.alike.Goals as goal

pub returns-in-Id : goal.returns-in-Id
unfolding alike id_is
returns-in-Id c =
    rw c.in-Id.is (rw (c.id_of.ensures, c.id_of-in-Id.ensures) at c.same.ensures)

pub returns-in-Key : goal.returns-in-Key
unfolding alike key_is
returns-in-Key c = rw c.in-Key.is c.same_key.ensures

pub returns-in-Trade : goal.returns-in-Trade
unfolding alike
returns-in-Trade c = rw c.in-Trade.is c.same_trade.ensures

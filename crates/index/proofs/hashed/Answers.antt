-- By what is named, as in the definition.
use Rattle.index.specs.Linked.{hashed}
use Rattle.index.proofs.hashed.Goals as goal

pub returns-in-Id : goal.returns-in-Id
unfolding hashed
returns-in-Id c = rw c.in-Id.is c.id_of.ensures

pub returns-in-Key : goal.returns-in-Key
unfolding hashed
returns-in-Key c = rw c.in-Key.is c.parties_and_agreement.ensures

pub returns-in-Trade : goal.returns-in-Trade
unfolding hashed
returns-in-Trade c = rw c.in-Trade.is c.pair.ensures

-- Where the sender's slot differs, the rest of the test does not matter.
use Rattle.laws.specs.Kit.{sym, ◌and◌}
use Rattle.paper.specs.Book.{id_is}
use Rattle.laws.specs.Kit.{◌∙◌}
use Rattle.readings.proofs.is_series_with_id.Goals as goal

pub returns-then-not-is_series_of : goal.returns-then-not-is_series_of
unfolding ◌and◌
returns-then-not-is_series_of c = rw (sym c.is_series_of.ensures ∙ c.if-not-is_series_of.true)

pub returns : goal.returns
unfolding id_is ◌and◌
returns c =
    rw ((sym c.is_series_of.ensures ∙ c.if-not-is_series_of.false), sym c.id_of.ensures) c.same.ensures

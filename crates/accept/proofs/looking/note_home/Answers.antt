-- The slot of a series of the sender with a number is noted, and no other.
use Rattle.laws.specs.Kit.{arith, sym, ◌∙◌}
use Rattle.accept.proofs.Laws.Looking.{noted_none, noted_own, noted_other}
use Rattle.accept.proofs.looking.note_home.Goals as goal

pub returns-then-number-eq0 : goal.returns-then-number-eq0
returns-then-number-eq0 c = noted_none _ _ _ _ _ c.if-number-eq0.true

pub keep_first-requires : goal.keep_first-requires
keep_first-requires c =
    (omega (arith, c.if-number-eq0.false), c.requires.1, c.requires.0)

pub returns-then-is_series_of : goal.returns-then-is_series_of
returns-then-is_series_of c =
    c.keep_first.ensures ∙ noted_own _ _ _ _ _ c.if-number-eq0.false (sym c.is_series_of.ensures ∙ c.if-is_series_of.true)

pub returns-else-is_series_of : goal.returns-else-is_series_of
returns-else-is_series_of c = noted_other _ _ _ _ _ c.if-number-eq0.false (sym c.is_series_of.ensures ∙ c.if-is_series_of.false)

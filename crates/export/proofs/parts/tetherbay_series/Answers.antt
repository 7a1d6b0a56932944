-- Where rule 2 is broken there is nothing to hand out; elsewhere the number tells the place.
use Rattle.laws.specs.Kit.{sym, refl, ◌∙◌}
use Rattle.export.proofs.Laws.Parts.{series_broken, series_right_lem}
use Rattle.export.proofs.parts.tetherbay_series.Goals as goal

pub returns-then-rule_2 : goal.returns-then-rule_2
returns-then-rule_2 c = series_broken _ _ (sym c.rule_2.ensures ∙ c.if-rule_2.true) refl

pub returns : goal.returns
returns c = series_right_lem _ _ (sym c.rule_2.ensures ∙ c.if-rule_2.false) c.part_numbered.ensures

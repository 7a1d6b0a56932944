-- Where rule 2 is broken an empty part is given, elsewhere the message itself.
use Rattle.laws.specs.Kit.{sym, ◌∙◌}
use Rattle.laws.specs.Bytes.{part}
use Rattle.reader.specs.Walk.{readable}
use Rattle.reader.proofs.readable.Goals as goal

pub returns-then-rule_2 : goal.returns-then-rule_2
unfolding readable part
returns-then-rule_2 c = rw (sym c.rule_2.ensures ∙ c.if-rule_2.true) c.part_of.ensures

pub returns : goal.returns
unfolding readable
returns c = rw (sym c.rule_2.ensures ∙ c.if-rule_2.false)

-- Where rule 8 is broken the character is that of the parties' codes; where it is kept none is named.
use Rattle.judge.proofs.Laws.Order.{character_named, character_none}
use Rattle.judge.proofs.series.parties_verdict.Goals as goal

pub returns-then-rule_8 : goal.returns-then-rule_8
returns-then-rule_8 c =
    character_named 7 _ c.rule_8.ensures c.if-rule_8.true c.verdict_of.ensures c.wrong_character.ensures

pub returns : goal.returns
returns c = character_none 8 _ _ c.rule_8.ensures c.if-rule_8.false

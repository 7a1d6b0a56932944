-- Where rule 4 is broken the character is that of the sender's code; where it is kept none is named.
use Rattle.laws.specs.Kit.{◌∙◌, ap}
use Rattle.paper.specs.Eic.{eic_number}
use Rattle.judge.proofs.Laws.Order.{character_named, character_none}
use Rattle.judge.proofs.sender_verdict.Goals as goal

pub returns-then-rule_4 : goal.returns-then-rule_4
returns-then-rule_4 c =
    character_named 3 0 c.rule_4.ensures c.if-rule_4.true c.verdict_of.ensures (c.eic_number.ensures ∙ ap eic_number c.sender.ensures)

pub returns : goal.returns
returns c = character_none 4 0 _ c.rule_4.ensures c.if-rule_4.false

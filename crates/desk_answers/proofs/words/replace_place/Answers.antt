-- The branches are the definition's.
use Rattle.laws.specs.Kit.{arith, sym, ◌∙◌}
use Rattle.desk_answers.specs.Answers.{replace_place}
use Rattle.desk_answers.proofs.words.replace_place.Goals as goal

pub returns-then-names_rule : goal.returns-then-names_rule
unfolding replace_place
returns-then-names_rule c = let e = rw c.word.ensures at (sym c.names_rule.ensures ∙ c.if-names_rule.true) in (rw e, omega arith)

pub returns : goal.returns
unfolding replace_place
returns c = let e = rw c.word.ensures at (sym c.names_rule.ensures ∙ c.if-names_rule.false) in (rw e, omega arith)

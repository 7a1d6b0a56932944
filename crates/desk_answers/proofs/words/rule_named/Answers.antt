-- The branches are the definition's.
use Rattle.laws.specs.Kit.{sym, ◌∙◌}
use Rattle.paper.specs.Listing.{text}
use Rattle.desk_answers.specs.Answers.{rule_named}
use Rattle.desk_answers.proofs.words.rule_named.Goals as goal

pub returns-then-same : goal.returns-then-same
unfolding rule_named text
returns-then-same c = let e = rw c.word.ensures at (sym c.same.ensures ∙ c.if-same.true) in rw e

pub returns : goal.returns
unfolding rule_named text
returns c = let e = rw c.word.ensures at (sym c.same.ensures ∙ c.if-same.false) in rw e

-- The branches are the definition's.
use Rattle.laws.specs.Kit.{sym, ◌∙◌}
use Rattle.desk_answers.specs.Answers.{opening_words}
use Rattle.desk_answers.proofs.words.opening_words.Goals as goal

pub returns-then-replaces : goal.returns-then-replaces
unfolding opening_words
returns-then-replaces c = rw (sym c.replaces.ensures ∙ c.if-replaces.true, c.replace_place-k.ensures.0)

pub returns : goal.returns
unfolding opening_words
returns c = rw (sym c.replaces.ensures ∙ c.if-replaces.false, c.replace_place-k.ensures.0)

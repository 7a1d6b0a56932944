-- The code asks the definition's question.
use Rattle.laws.specs.Tests.{◌or◌}
use Rattle.paper.specs.Listing.{text}
use Rattle.desk_answers.specs.Answers.{names_rule}
use Rattle.desk_answers.proofs.words.names_rule.Goals as goal

pub returns : goal.returns
unfolding names_rule ◌or◌ text
returns c = cc

-- The smaller of the two is what stands within the field.
use Rattle.desk_text.specs.Arguments.{word_value}
use Rattle.desk_text.proofs.Laws.{within_min}
use Rattle.laws.specs.Kit.{◌∙◌}
use Rattle.desk_text.proofs.arguments.word_value.Goals as goal

pub returns : goal.returns
unfolding word_value
returns c = c.min.ensures ∙ within_min _ _

-- The answer told is the final value's, the rule that of the day block.
use Rattle.laws.specs.Bytes.{part}
use Rattle.paper.specs.Book.{day_block}
use Rattle.desk_answers.proofs.questions.final_told.Goals as goal

pub returns : goal.returns
unfolding day_block part
returns c =
    rw (c.final_value-answer.ensures, c.word.ensures, c.word-2.ensures, c.rule_of.ensures, c.part_of.ensures) at c.final_line.ensures

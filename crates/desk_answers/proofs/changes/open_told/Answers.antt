-- The opening is of the numbers and words as they are read, and its answer is the one told.
use Rattle.laws.specs.Kit.{refl}
use Rattle.desk_answers.specs.Answers.{opening}
use Rattle.desk_answers.proofs.changes.open_told.Goals as goal

pub returns : goal.returns
unfolding opening
returns c =
    let o = rw (c.byte_value.ensures, c.word_value.ensures, c.word.ensures, c.rule_named-rule.ensures, c.word-receiver.ensures, c.word-area.ensures) at c.open_by-opened.ensures in
    let l = rw (c.rule_named-rule.ensures, c.word-receiver.ensures, c.word-area.ensures) at c.open_line-length.ensures in
    (rw (← o.0) (record { answer = refl; line = l }), o.1)

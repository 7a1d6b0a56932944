-- The answer told is the verdict, with the block that it names.
use Rattle.laws.specs.Kit.{refl, ap}
use Rattle.paper.specs.declared.SubmitAnswer.{SubmitAnswer}
use Rattle.paper.specs.Looks.{submit_answer}
use Rattle.desk_answers.specs.Answers.{block_named}
use Rattle.desk_answers.proofs.changes.submit_told.Goals as goal

pub returns : goal.returns
unfolding block_named submit_answer
returns c =
    let v = ap (λ (a : SubmitAnswer). a.verdict) c.submit-answer.ensures.0 in
    let l = rw c.block_at.ensures at c.verdict_line-length.ensures in
    (rw (← v) (record { answer = refl; line = l }), c.submit-answer.ensures.1)

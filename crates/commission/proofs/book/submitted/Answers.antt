-- What is laid at the front of the room is the message that the text says.
use Rattle.laws.specs.Kit.{sym, ap, ◌∙◌}
use Rattle.laws.specs.Base.{ap₂, List, ℕ}
use Rattle.laws.specs.Bytes.{part}
use Rattle.paper.specs.declared.SubmitAnswer.{SubmitAnswer}
use Rattle.paper.specs.Looks.{submit_answer}
use Rattle.message_text.specs.declared.TextRead.{TextRead}
use Rattle.cases_site.specs.Site.{laid_first, message_of}
use Rattle.commission.proofs.book.submitted.Goals as goal

pub returns : goal.returns
unfolding message_of laid_first submit_answer
returns c =
    let m = c.message_from_text-k.ensures in
    rw (sym (c.part_of.ensures ∙ ap₂ (λ (q : TextRead) (x : List ℕ). part 0 q.length x) m.0 m.1)) (ap (λ (a : SubmitAnswer). a.verdict.number) c.submit-answer.ensures.0, c.submit-answer.ensures.1)

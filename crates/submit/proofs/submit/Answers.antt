-- A refusal leaves the book as it was, by the definition; a verdict of 0 gives what the acceptance relies on.
use Rattle.laws.specs.Kit.{refl, ap, ◌∙◌}
use Rattle.paper.specs.Rules.{number_of}
use Rattle.facts.specs.Looks.{answer_refused, answer_accepted}
use Rattle.submit.proofs.Laws.{submitted_refused, submitted_accepted, accepted_fits}
use Rattle.submit.proofs.submit.Goals as goal

pub accept-looked-requires : goal.accept-looked-requires
accept-looked-requires c =
    let j = c.in-Ok.ensures in
    (accepted_fits _ _ _ j.verdict.verdict refl, j.handed)

pub returns-in-Ok : goal.returns-in-Ok
returns-in-Ok c =
    let j = c.fine.ensures ∙ c.in-Ok.ensures.verdict.verdict in
    let z = ap number_of c.fine.ensures in
    (answer_accepted _ _ _ j z _ c.accept-looked.ensures.1, submitted_accepted _ _ _ j z c.accept-looked.ensures.0)

pub returns-in-Err : goal.returns-in-Err
returns-in-Err c =
    let j = c.in-Err.ensures.verdict in
    (answer_refused _ _ _ j.verdict j.refusal, submitted_refused _ _ _ j.verdict j.refusal)

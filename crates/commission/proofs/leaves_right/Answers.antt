-- The tables are the definition's, and each of their rows holds, whatever the book.
use Rattle.laws.specs.Kit.{ap, ◌∙◌, ◌and◌}
use Rattle.laws.specs.Lists.{every}
use Rattle.paper.specs.Listing.{text}
use Rattle.cases_site.specs.Tables.{rows, eics, quantities}
use Rattle.cases_site.specs.Proved.{eics_right, quantities_right}
use Rattle.commission.proofs.leaves_right.Goals as goal

pub returns : goal.returns
unfolding eics quantities rows text every ◌and◌
returns g c =
    let a = c.cases-a.ensures.0 ∙ ap (λ p. p.0) (eics_right _) in
    let k = c.cases-c.ensures.0 ∙ ap (λ p. p.0) (quantities_right _) in
    c.all.ensures ∙ rw (a, c.quantities-b.ensures, k, c.printed.ensures)

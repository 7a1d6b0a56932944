-- The text that is printed is the one expected, by the definition.
use Rattle.laws.specs.Kit.{ap, ◌∙◌}
use Rattle.laws.specs.Base.{ap₂, List, ℕ}
use Rattle.laws.specs.Lists.{same}
use Rattle.laws.specs.Bytes.{part}
use Rattle.paper.specs.declared.QuantityPrinted.{QuantityPrinted}
use Rattle.paper.specs.Listing.{text}
use Rattle.site_leaves.specs.Proved.{printed_right}
use Rattle.site_leaves.proofs.leaves.printed.Goals as goal

pub returns : goal.returns
unfolding text
returns g c =
    let q = c.quantity_print-k.ensures in
    c.text.ensures
    ∙ ap (same (text "60.000")) (c.part_of.ensures ∙ ap₂ (λ (a : QuantityPrinted) (x : List ℕ). part 0 a.length x) q.0 q.1)
    ∙ printed_right

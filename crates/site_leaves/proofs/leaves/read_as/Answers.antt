-- Both verdicts are on what the text is read as.
use Rattle.laws.specs.Kit.{ap, ◌∙◌, ◌and◌, is}
use Rattle.laws.specs.Base.{ap₂}
use Rattle.paper.specs.declared.QuantityRead.{QuantityRead}
use Rattle.site_leaves.specs.Leaves.{reads_as}
use Rattle.site_leaves.proofs.leaves.read_as.Goals as goal

pub returns : goal.returns
unfolding reads_as
returns g c =
    let e = c.quantity_read-read.ensures in
    c.both.ensures
    ∙ ap₂ ◌and◌
    (c.number-a.ensures ∙ ap (λ (q : QuantityRead). is 0 q.number) e)
    (c.number.ensures ∙ ap (is _) (ap (λ (q : QuantityRead). q.kilowatts) e))

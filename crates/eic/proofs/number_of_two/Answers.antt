-- The first number counts where it is not 0.
use Rattle.laws.specs.Kit.{sym, ◌∙◌}
use Rattle.facts.specs.Eic.{first_named, second_named}
use Rattle.eic.proofs.number_of_two.Goals as goal

pub returns-then-n-ne0 : goal.returns-then-n-ne0
returns-then-n-ne0 c = let n = c.eic_number-n in
    n.ensures ∙ sym (first_named _ _ (λ q. c.if-n-ne0.true (n.ensures ∙ q)))

pub returns : goal.returns
returns c = let n = c.eic_number-n in
    c.eic_number.ensures ∙ sym (second_named _ _ (sym n.ensures ∙ c.if-n-ne0.false))

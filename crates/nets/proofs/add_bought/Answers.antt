-- The sums are raised where the series counts +, and else are as they were.
use Rattle.laws.specs.Kit.{rules}
use Rattle.nets.specs.Sums.{bought_share}
use Rattle.nets.proofs.Laws.Raising.{raised_agree, raised_still}
use Rattle.nets.proofs.add_bought.Goals as goal

pub returns-then-comes_in : goal.returns-then-comes_in
unfolding bought_share
returns-then-comes_in c =
    raised_agree _ _ _ _ _ (λ k. rw (← c.comes_in.ensures, c.if-comes_in.true)) (c.change_sums.ensures (λ q. q) (λ a q r h l m e. search rules))

pub returns-else-comes_in : goal.returns-else-comes_in
unfolding bought_share
returns-else-comes_in c = raised_still _ _ _ (λ k. rw (← c.comes_in.ensures, c.if-comes_in.false))

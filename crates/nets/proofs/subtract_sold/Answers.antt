-- The sums are lowered where the series counts −, and else are as they were.
use Rattle.std.specs.Prelude.{◌-◌}
use Rattle.laws.specs.Kit.{rules}
use Rattle.nets.specs.Sums.{sold_share}
use Rattle.nets.proofs.Laws.Raising.{lacking, raised_agree, raised_still}
use Rattle.nets.proofs.subtract_sold.Goals as goal

pub returns-then-goes_out : goal.returns-then-goes_out
unfolding sold_share
returns-then-goes_out c =
    raised_agree _ _ _ _ _ (λ k. rw (← c.goes_out.ensures, c.if-goes_out.true)) (c.change_sums.ensures (λ q. 4294967296 - q) (λ a q r h l m e. lacking a r q l h m (search rules)))

pub returns-else-goes_out : goal.returns-else-goes_out
unfolding sold_share
returns-else-goes_out c = raised_still _ _ _ (λ k. rw (← c.goes_out.ensures, c.if-goes_out.false))

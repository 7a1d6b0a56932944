-- What is bought and what is sold are added in turn.
use Rattle.laws.specs.Kit.{refl}
use Rattle.nets.specs.Sums.{share}
use Rattle.nets.proofs.Laws.Raising.{raised_then}
use Rattle.nets.proofs.add_series.Goals as goal

pub returns : goal.returns
unfolding share
returns c =
    raised_then _ _ _ _ _ _ _ (λ k. refl) c.add_bought.ensures c.subtract_sold.ensures

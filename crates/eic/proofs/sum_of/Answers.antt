-- The sum of the values so far; the weight falls as the place rises.
use Rattle.std.specs.Prelude.{◌≡◌, ◌-◌}
use Rattle.laws.specs.Kit.{refl, ap, ◌∙◌, arith, take_all}
use Rattle.eic.specs.Values.{weighted_values}
use Rattle.eic.proofs.Laws.{weighted_more}
use Rattle.eic.proofs.sum_of.Goals as goal

pub loop-value-init : goal.loop-value-init
unfolding weighted_values
loop-value-init c = (omega arith, omega arith, refl)

pub loop-value-preserved : goal.loop-value-preserved
loop-value-preserved c =
    let l = c.loop-value in
    let w : l.weight ≡ 16 - l.value-index = omega arith in
    (omega arith, omega arith, rw (weighted_more 16 _ _ c.loop-value-test.true, c.term-sum.ensures.0, w, l.invariant.2))

pub returns : goal.returns
returns c = c.loop-value.invariant.2 ∙ ap (weighted_values 16) (take_all _ _ c.loop-value-test.false)

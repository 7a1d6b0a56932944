-- Below k each sum is changed by its quantity; from k on the sums are as they were.
use Rattle.std.specs.Prelude.{◌≡◌, ◌+◌, ◌%◌}
use Rattle.laws.specs.Kit.{arith, refl, ap, ◌∙◌, get_or, length-set}
use Rattle.nets.proofs.Laws.Raising.{raised_none, raised_more, rest_more}
use Rattle.nets.proofs.change_sums.Goals as goal

pub loop-k-init : goal.loop-k-init
loop-k-init g c = (c.requires.hundred, refl, λ f t. raised_none _ _ _)

pub loop-k-preserved : goal.loop-k-preserved
loop-k-preserved g c =
    let i = c.loop-k.invariant in
    let old = get_or c.loop-k.sums c.loop-k.k 0 in (
      rw length-set i.0,
      rest_more c.loop-k.k c.change.result c.args.sums.now c.loop-k.sums i.1,
      λ f t. raised_more c.loop-k.k c.change.result c.args.sums.now c.loop-k.sums i.1 _ (i.2 f t) (omega arith) (t _ _ _ (omega (arith, c.slice_known-in-loop-k-1.given c.loop-k.k)) c.quantity.type_inv c.change.type_inv c.change.ensures ∙ ap (λ q. (old + f q) % 4294967296) c.quantity.ensures),
    )

pub returns : goal.returns
returns g c f t = let e : c.loop-k.k ≡ 100 = omega arith in rw e at (c.loop-k.invariant.2 f t)

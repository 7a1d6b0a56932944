-- The sums are raised by what the blocks passed add.
use Rattle.laws.specs.Kit.{arith, sym, ◌∙◌}
use Rattle.laws.specs.Chains.{blocks_for, turn, turn_end}
use Rattle.nets.specs.Sums.{share_if}
use Rattle.nets.proofs.Laws.Raising.{raised_agree, shares_none, shares_more, shares_passed, shares_all}
use Rattle.std.proofs.Common.{rules}
use Rattle.std.proofs.lemmas.List.{length_push}
use Rattle.nets.proofs.add_those.Goals as goal

pub loop-x-init : goal.loop-x-init
loop-x-init g c = (c.requires.hundred, λ p t. shares_none _ _)

pub loop-x-preserved-then-counts : goal.loop-x-preserved-then-counts
unfolding share_if
loop-x-preserved-then-counts g c =
    let road = blocks_for 512 _ (omega arith) c.into_iter-x-iterator.ensures.into_iter_gives c.chunks_exact-x-items.ensures.rest c.chunks_exact-x-items.ensures.size in
    let step = turn road c.loop-x.yielded _ c.loop-x.yielded_by c.in-Some.is c.next.ensures.steps in (
      omega arith,
      λ p t. let h = sym (t c.in-Some.x.now c.counts.result (search rules)) ∙ c.if-counts.true in
          rw (length_push c.loop-x.yielded c.in-Some.x)
          (shares_more (share_if p _ _) _ _ step (c.loop-x.invariant.1 p t) _ (raised_agree _ _ _ _ _ (λ k. rw h) c.add_series.ensures)),
    )

pub loop-x-preserved : goal.loop-x-preserved
unfolding share_if
loop-x-preserved g c =
    let road = blocks_for 512 _ (omega arith) c.into_iter-x-iterator.ensures.into_iter_gives c.chunks_exact-x-items.ensures.rest c.chunks_exact-x-items.ensures.size in
    let step = turn road c.loop-x.yielded _ c.loop-x.yielded_by c.in-Some.is c.next.ensures.steps in (
      c.loop-x.invariant.0,
      λ p t. let h = sym (t c.in-Some.x.now c.counts.result (search rules)) ∙ c.if-counts.false in
          rw (length_push c.loop-x.yielded c.in-Some.x) (shares_passed (share_if p _ _) _ _ step (c.loop-x.invariant.1 p t) (λ k. rw h)),
    )

pub returns : goal.returns
returns g c p t =
    let road = blocks_for 512 _ (omega arith) c.into_iter-x-iterator.ensures.into_iter_gives c.chunks_exact-x-items.ensures.rest c.chunks_exact-x-items.ensures.size in
    shares_all _ _ _ (turn_end road c.loop-x.yielded _ c.loop-x.yielded_by c.in-None.is c.next.ensures.steps) (c.loop-x.invariant.1 p t)

-- Block i goes before those of its bucket that come later, or is left out.
use Rattle.std.specs.Prelude.{◌-◌, ◌/◌, ◌<◌, length}
use Rattle.laws.specs.Kit.{arith, refl, ◌∙◌, length-set, replicate, ◌and◌, is}
use Rattle.laws.specs.Lists.{every}
use Rattle.laws.specs.Cut.Laws.{cut_length}
use Rattle.paper.specs.Layout.{zeros}
use Rattle.index.specs.Ahead.Laws.{behind_none, behind_left, behind_put, behind_all_end}
use Rattle.index.specs.Linked.Laws.{none, left_out, put, call_at, all_linked}
use Rattle.index.proofs.buckets.link.Given.{Over}
use Rattle.index.proofs.buckets.link.Goals as goal

pub loop-i-init : goal.loop-i-init
unfolding zeros every ◌and◌ is
loop-i-init g c = (
  behind_none (replicate 1024 0) (replicate 1000 0) refl refl _,
  refl,
  refl,
  λ p t. none _ _ (replicate 1024 0) (replicate 1000 0) refl refl refl _ (rw (cut_length 512 _) (omega arith)),
)

-- the bucket that is named for block i is one
inside : (g : Over) (c : goal.In-Some g) → c.in-Some.g < 1024
inside g c = c.requires.2 _ _ (omega (arith, c.loop-i.auto.i, c.loop-i-test.true)) (call_at _ _ _ c.block_at.ensures c.in-Some.ensures)

pub bounds-heads-g : goal.bounds-heads-g
bounds-heads-g g c = inside g c

pub offset_bounds-heads-g : goal.offset_bounds-heads-g
offset_bounds-heads-g g c = let b = inside g c in omega (arith, b)

pub bounds-heads-g-in-Some : goal.bounds-heads-g-in-Some
bounds-heads-g-in-Some g c = inside g c

pub offset_bounds-heads-g-in-Some : goal.offset_bounds-heads-g-in-Some
offset_bounds-heads-g-in-Some g c = let b = inside g c in omega (arith, b)

pub loop-i-preserved-in-Some : goal.loop-i-preserved-in-Some
loop-i-preserved-in-Some g c =
    let i = c.loop-i.invariant in
    let w : c.loop-i.i - 1 < length c.args.us.now / 512 = omega (arith, c.loop-i.auto.i, c.loop-i-test.true) in
    let r = call_at g.F.Fn c.args.bucket_of c.block_at.result c.block_at.ensures c.in-Some.ensures in
    let b = inside g c in (
      behind_put _ _ _ c.loop-i-test.true refl i.0 _ (omega (arith, b, i.1)) (omega (arith, c.requires.0, i.2)) (omega (arith, c.requires.0)),
      length-set _ _ _ ∙ i.1,
      length-set _ _ _ ∙ i.2,
      λ p t. put _ _ _ (rw (cut_length 512 _) w) _ _ c.loop-i-test.true refl (i.3 p t) _ (t _ _ w r) b (omega (arith, c.requires.0)),
    )

pub loop-i-preserved : goal.loop-i-preserved
loop-i-preserved g c =
    let i = c.loop-i.invariant in
    let w : c.loop-i.i - 1 < length c.args.us.now / 512 = omega (arith, c.loop-i.auto.i, c.loop-i-test.true) in
    let r = call_at g.F.Fn c.args.bucket_of c.block_at.result c.block_at.ensures c.in_default.ensures in
    (behind_left _ _ _ c.loop-i-test.true refl i.0, i.1, i.2, λ p t. left_out _ _ _ (rw (cut_length 512 _) w) _ _ c.loop-i-test.true refl (i.3 p t) (t _ _ w r))

pub returns-clause-links : goal.returns-clause-links
returns-clause-links g c = λ p t. all_linked _ _ _ _ _ c.loop-i-test.false (c.loop-i.invariant.3 p t)

pub invariant_of-result : goal.invariant_of-result
invariant_of-result g c = record { ends = behind_all_end _ _ _ c.loop-i.invariant.0 }

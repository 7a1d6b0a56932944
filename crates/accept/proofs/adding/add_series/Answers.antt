-- The new ones among the series before k are laid from `start` on.
use Rattle.std.specs.Prelude.{◌≡◌, ◌/◌}
use Rattle.laws.specs.Kit.{arith, ap, ◌∙◌, length}
use Rattle.laws.specs.Cut.{cut}
use Rattle.laws.specs.Cut.Laws.{cut_length}
use Rattle.accept.specs.Steps.{added_to}
use Rattle.slots.proofs.Laws.Lent.{block_whole}
use Rattle.accept.proofs.Laws.Laying.{laid_none}
use Rattle.accept.proofs.Laws.InTurn.{add_room, add_go}
use Rattle.accept.proofs.adding.add_series.Goals as goal

pub loop-k-init : goal.loop-k-init
unfolding added_to
loop-k-init c =
    (omega arith, laid_none c.args.start (cut 512 c.args.slots.now) (omega (arith, cut_length 512 c.args.slots.now)))

pub add_if_new-next-requires : goal.add_if_new-next-requires
add_if_new-next-requires c =
    let r = add_room c.args.slot.0 c.args.start c.args.places.now (cut 512 c.args.slots.now) (cut 512 c.args.series.now) c.loop-k.k (cut 512 c.loop-k.slots) c.loop-k.next (omega (arith, cut_length 512 c.args.slots.now)) c.loop-k.invariant.1 c.wide.result c.block_at.result.now c.wide.ensures c.block_at.ensures (length c.args.series.now / 512) (omega arith) in
    (ap length c.block_at.ensures ∙ block_whole c.args.series.now c.loop-k.k (omega arith), omega (arith, r))

pub loop-k-preserved : goal.loop-k-preserved
loop-k-preserved c = (
  omega arith,
  add_go c.args.slot.0 c.args.start c.args.places.now (cut 512 c.args.slots.now) (cut 512 c.args.series.now) c.loop-k.k (cut 512 c.loop-k.slots) c.loop-k.next (omega (arith, cut_length 512 c.args.slots.now)) c.loop-k.invariant.1 c.wide.result c.block_at.result.now c.wide.ensures c.block_at.ensures c.add_if_new-next.ensures,
)

pub returns : goal.returns
returns c =
    let e : c.loop-k.k ≡ length c.args.series.now / 512 = omega arith in
    rw e at c.loop-k.invariant.1

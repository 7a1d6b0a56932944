-- The first i slots are looked at.
use Rattle.std.specs.Prelude.{◌≡◌, ◌/◌}
use Rattle.laws.specs.Kit.{arith, refl, sym, ◌∙◌, length, ◌and◌, is}
use Rattle.laws.specs.Lists.{every}
use Rattle.paper.specs.Layout.{zeros}
use Rattle.laws.specs.Cut.Laws.{cut_length}
use Rattle.accept.proofs.Laws.Looking.{looked_none, looked_more, looked_all}
use Rattle.accept.proofs.looking.look_all.Goals as goal

pub link_own-buckets-requires : goal.link_own-buckets-requires
link_own-buckets-requires c =
    omega (arith, c.requires.1.few, cut_length 512 c.args.series.now)

pub loop-i-init : goal.loop-i-init
unfolding zeros every ◌and◌ is
loop-i-init c = looked_none _ _ _ c.requires.1 _ _ _ refl refl refl refl refl

pub look-number-requires : goal.look-number-requires
look-number-requires c =
    (omega (arith, c.requires.0), c.requires.1, c.link_own-buckets.ensures.links, c.loop-i.invariant.partners_room)

pub note_home-requires : goal.note_home-requires
note_home-requires c =
    (omega (arith, c.requires.0), c.look-number.ensures.2)

pub loop-i-preserved : goal.loop-i-preserved
loop-i-preserved c =
    looked_more _ _ _ c.requires.1 _ (omega (arith, cut_length 512 c.args.us.now)) _ _ _ c.loop-i.invariant _ c.block_at-block.ensures _ c.look-number.ensures.1 _ _ c.look-number.ensures.3 c.look-number.ensures.0
    c.note_home.ensures (omega (arith, c.requires.0))

pub returns : goal.returns
returns c =
    let e : c.loop-i.i ≡ length c.args.us.now / 512 = omega arith in
    let l = looked_all _ _ _ c.requires.1 _ (omega (arith, cut_length 512 c.args.us.now)) _ _ _ c.loop-i.invariant in
    (l.0, l.1, l.2, sym e ∙ l.3)

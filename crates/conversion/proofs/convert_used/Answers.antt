-- The blocks before i are converted, and each is converted as over the blocks as they came: what is read of them is what a converted one still shows.
use Rattle.laws.specs.Kit.{arith, ◌∙◌, []}
use Rattle.laws.specs.Cut.{cut}
use Rattle.laws.specs.Cut.Laws.{cut_length}
use Rattle.laws.specs.InPlace.{done_none, done_more, done_all}
use Rattle.paper.specs.Conversion.{converted_block, used_converted}
use Rattle.conversion.proofs.Laws.Shown.{shown, converted_shows, converted_reads, links_kept}
use Rattle.conversion.proofs.convert_used.Goals as goal

pub loop-i-init : goal.loop-i-init
loop-i-init c = (omega arith, done_none _ _)

pub convert_block-requires : goal.convert_block-requires
convert_block-requires c =
    (omega arith, c.requires.0, omega arith, links_kept _ _ (cut 512 c.args.us.now) _ c.loop-i.i c.loop-i.invariant.1 _ _ c.link_series-buckets.ensures.links)

pub loop-i-preserved : goal.loop-i-preserved
loop-i-preserved c =
    (omega arith, done_more (shown _ _) (converted_block _ _) (converted_shows _ _) (converted_reads _ _) (cut 512 c.args.us.now) c.loop-i.i [] (omega (arith, cut_length 512 c.args.us.now)) _ _ c.loop-i.invariant.1 c.convert_block.ensures)

pub returns : goal.returns
unfolding used_converted
returns c =
    c.loop-i.invariant.1 ∙ done_all _ _ c.loop-i.i (omega (arith, cut_length 512 c.args.us.now))

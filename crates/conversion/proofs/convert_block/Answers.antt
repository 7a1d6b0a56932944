-- A sender comes back with its nets, a series with its mark, each worked out afresh; another block is not written at all.
use Rattle.laws.specs.Kit.{arith, ap, ◌∙◌, set}
use Rattle.laws.specs.Cut.{cut}
use Rattle.paper.specs.Layout.{with_mark, with_nets}
use Rattle.layout.specs.Written.{entries}
use Rattle.slots.proofs.Laws.Lent.{cut_lent}
use Rattle.conversion.proofs.Laws.Shown.{sender_becomes, series_becomes, other_stays}
use Rattle.conversion.proofs.convert_block.Goals as goal

pub returns-then-is_sender : goal.returns-then-is_sender
returns-then-is_sender c =
    cut_lent (with_nets (entries c.own_nets-sums.result 100)) c.args.us.now c.args.i c.requires.0 c.put_nets.ensures (omega arith)
    ∙ ap (set (cut 512 c.args.us.now) c.args.i) (sender_becomes _ _ _ _ c.block_at.ensures c.is_sender.ensures c.if-is_sender.true c.block_at-then-is_sender.ensures c.own_nets-sums.ensures)

pub mark_in-m-requires : goal.mark_in-m-requires
mark_in-m-requires c = (c.requires.1, c.requires.3)

pub returns-then-is_series : goal.returns-then-is_series
returns-then-is_series c =
    cut_lent (with_mark c.mark_in-m.result) c.args.us.now c.args.i c.requires.0 c.write_mark.ensures (omega arith)
    ∙ ap (set (cut 512 c.args.us.now) c.args.i) (series_becomes _ _ _ _ c.block_at-2.ensures c.is_series.ensures c.if-is_series.true c.block_at-then-is_series.ensures c.mark_in-m.ensures)

pub returns-else-is_series : goal.returns-else-is_series
returns-else-is_series c =
    other_stays _ _ _ _ c.block_at.ensures c.is_sender.ensures c.if-is_sender.false c.block_at-2.ensures c.is_series.ensures c.if-is_series.false

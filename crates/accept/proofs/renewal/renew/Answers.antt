-- The tests are the definition's, in its order; the message's series of the block's key is the first that has it.
use Rattle.std.specs.Prelude.{◌-◌}
use Rattle.laws.specs.Kit.{arith, sym, ap, ◌∙◌, length}
use Rattle.laws.specs.Lists.Search.{place_within}
use Rattle.laws.specs.Bytes.Laws.{written_all}
use Rattle.laws.specs.Cut.{cut}
use Rattle.laws.specs.Cut.Laws.{cut_length}
use Rattle.paper.specs.Layout.{with_senders_slot}
use Rattle.slots.proofs.Laws.Lent.{block_whole}
use Rattle.accept.proofs.Laws.Renewing.{renewed_sender, renewed_other, renewed_absent, renewed_series}
use Rattle.accept.proofs.renewal.renew.Goals as goal

pub returns-then-is_sender_block_of : goal.returns-then-is_sender_block_of
returns-then-is_sender_block_of c =
    c.write_bytes.ensures ∙ written_all _ _ (omega arith) ∙ renewed_sender _ _ _ _ c.if-is_sender_block_of.true (rw c.sender.ensures at c.is_sender_block_of.ensures)

pub returns-then-number-eq0 : goal.returns-then-number-eq0
returns-then-number-eq0 c =
    renewed_absent _ _ _ _ c.if-is_sender_block_of.false (rw c.sender.ensures at c.is_sender_block_of.ensures) c.if-is_series_of.true c.is_series_of.ensures _ c.requires.1 c.if-number-eq0.true

pub write_series-requires : goal.write_series-requires
write_series-requires c =
    let k = c.args.number in
    c.requires.0 ∙ sym (ap length c.block_at.ensures ∙ block_whole c.args.series.now (k - 1) (omega (arith, cut_length 512 c.args.series.now, place_within _ (cut 512 c.args.series.now) k c.requires.1)))

pub returns-else-number-eq0 : goal.returns-else-number-eq0
returns-else-number-eq0 c =
    c.write_series.ensures ∙ ap (with_senders_slot c.args.slot.0) c.block_at.ensures
    ∙ renewed_series _ _ _ _ c.if-is_sender_block_of.false (rw c.sender.ensures at c.is_sender_block_of.ensures) c.if-is_series_of.true c.is_series_of.ensures _ c.requires.1 c.if-number-eq0.false

pub returns-else-is_series_of : goal.returns-else-is_series_of
returns-else-is_series_of c =
    renewed_other _ _ _ _ c.if-is_sender_block_of.false (rw c.sender.ensures at c.is_sender_block_of.ensures) c.if-is_series_of.false c.is_series_of.ensures

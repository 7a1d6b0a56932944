-- No line is put for a block that is no series; one is put for a series, and its slot is one more than the blocks before it.
use Rattle.laws.specs.Kit.{not, ap, ◌∙◌, told, denied}
use Rattle.paper.specs.Book.{is_series}
use Rattle.listing_text.proofs.Laws.Line.{slot_none, slot_line}
use Rattle.std.proofs.Common.{rules}
use Rattle.listing_text.proofs.put_slot.Goals as goal

pub returns-then-not-is_series : goal.returns-then-not-is_series
returns-then-not-is_series c =
    (slot_none _ _ (denied (c.is_series.ensures ∙ ap is_series c.block_at-x.ensures) (ap not c.if-not-is_series.true)), search rules)

pub returns : goal.returns
returns c =
    let b = c.block_at-x.ensures in
    (slot_line _ _ (told (c.is_series.ensures ∙ ap is_series b) (ap not c.if-not-is_series.false)) (rw b at c.put_line.ensures.0), search rules)

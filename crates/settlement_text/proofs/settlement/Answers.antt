-- A refusal is one line; past it the sums from the row are those of the finals.
use Rattle.laws.specs.Kit.{arith, sym}
use Rattle.laws.specs.Cut.Laws.{cut_length}
use Rattle.paper.specs.Listing.{text}
use Rattle.desk_text.specs.Put.Laws.{called, then}
use Rattle.desk_lines.proofs.Laws.{refused, accepted}
use Rattle.settling.proofs.Laws.{sound_n, sound_few, sound_trades}
use Rattle.settlement_text.specs.Settlement.{settlement_text}
use Rattle.settlement_text.proofs.Laws.{is_sound, closed_there, whole_text}
use Rattle.settlement_text.proofs.settlement.Goals as goal

pub returns-then-number-ne0 : goal.returns-then-number-ne0
unfolding settlement_text
returns-then-number-ne0 c =
    rw (sym c.refusal-number.ensures) (refused _ c.if-number-ne0.true c.put_telling-a.ensures)

pub overflow_sub-p : goal.overflow_sub-p
overflow_sub-p c =
    let a = closed_there _ _ c.refusal-number.ensures c.if-number-ne0.false c.part_of.ensures in
    omega (arith, a.first)

pub values_at-values-requires : goal.values_at-values-requires
values_at-values-requires c =
    let s = is_sound _ _ c.refusal-number.ensures c.if-number-ne0.false in
    let a = closed_there _ _ c.refusal-number.ensures c.if-number-ne0.false c.part_of.ensures in
    (sound_few _ s c.used_part-us.ensures.1, sound_trades _ s c.used_part-us.ensures.0, omega (arith, sound_n _ s c.part_of.ensures, a.last))

pub put_sheet-requires : goal.put_sheet-requires
put_sheet-requires c =
    let s = is_sound _ _ c.refusal-number.ensures c.if-number-ne0.false in
    (sound_few _ s c.used_part-us.ensures.1, c.put-c.ensures.fits)

pub returns : goal.returns
unfolding settlement_text text
returns c =
    let e = whole_text _ _ c.refusal-number.ensures c.if-number-ne0.false c.part_of.ensures c.used_part-us.ensures.0 c.rule_of.ensures (cut_length 512 _) _ c.values_at-values.ensures in
    rw (sym c.refusal-number.ensures) (accepted _ c.if-number-ne0.false c.put_telling-a.ensures (then (then c.put_worded-b.ensures c.put-c.ensures) (called _ e c.put_sheet.ensures)))

-- Past soundness the used slots are lent and come back converted; before it nothing is written.
use Rattle.conversion.proofs.Laws.Whole.{refused, book_long, n_few, passed, used_room, lent_few, book_converted}
use Rattle.std.proofs.Common.{◌∙◌}
use Rattle.std.proofs.Common.{sym}
use Rattle.conversion.proofs.convert.Goals as goal

pub returns-then-not-old_sound : goal.returns-then-not-old_sound
returns-then-not-old_sound c = refused _ (sym c.old_sound.ensures ∙ c.if-not-old_sound.true)

pub area_of-ours-requires : goal.area_of-ours-requires
area_of-ours-requires c = book_long _ (sym c.old_sound.ensures ∙ c.if-not-old_sound.false)

pub slice_bounds-used_count-count : goal.slice_bounds-used_count-count
slice_bounds-used_count-count c = book_long _ (sym c.old_sound.ensures ∙ c.if-not-old_sound.false)

pub slice_bounds-used_count-start : goal.slice_bounds-used_count-start
slice_bounds-used_count-start c = book_long _ (sym c.old_sound.ensures ∙ c.if-not-old_sound.false)

pub slice_bounds-convert_used-end : goal.slice_bounds-convert_used-end
slice_bounds-convert_used-end c = used_room _ (sym c.old_sound.ensures ∙ c.if-not-old_sound.false) _ c.used_count.ensures.1

pub convert_used-requires : goal.convert_used-requires
convert_used-requires c =
    let t = (sym c.old_sound.ensures ∙ c.if-not-old_sound.false) in
    (n_few _ t _ c.n_of-n.ensures, lent_few _ t _ c.used_count.ensures.1)

pub returns : goal.returns
returns c =
    let t = (sym c.old_sound.ensures ∙ c.if-not-old_sound.false) in
    (passed _ t, book_converted _ t _ c.used_count.ensures.1 c.used_count.ensures.0 _ c.n_of-n.ensures _ c.area_of-ours.ensures c.convert_used.new.us c.convert_used.auto.us c.convert_used.ensures)

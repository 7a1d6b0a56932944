-- The word, then what printing put into the eight bytes, up to the length that it answered: the text of the quantity.
use Rattle.laws.specs.Kit.{◌∙◌, refl, replicate}
use Rattle.desk_lines.proofs.Laws.{printed_part}
use Rattle.desk_lines.proofs.put_megawatts.Goals as goal

pub returns : goal.returns
returns c =
    let q = c.quantity_print-printed.ensures in
    rw (rw (q.1, q.0) at c.part_of.ensures ∙ printed_part _ (replicate 8 0) refl) at c.put_field.ensures

-- The area stands within the day block, all sixteen bytes of it.
use Rattle.laws.specs.Kit.{sym, ◌∙◌}
use Rattle.slots.proofs.Laws.{area_read}
use Rattle.slots.proofs.area_of.Goals as goal

pub copy_from_slice-requires : goal.copy_from_slice-requires
copy_from_slice-requires c = sym (area_read c.args.book.now _ c.requires c.area.ensures).1

pub returns : goal.returns
returns c = c.copy_from_slice.ensures.after ∙ (area_read c.args.book.now _ c.requires c.area.ensures).0

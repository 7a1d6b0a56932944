-- The day block stays, the slots come back as the acceptance leaves them, and nothing stands behind them.
use Rattle.laws.specs.Kit.{◌∙◌}
use Rattle.accept.proofs.Laws.Whole.{head_lent, book_long, slots_length, lent_placing, lent_handed, lent_accepted, lent_looks}
use Rattle.accept.proofs.accept.Goals as goal

pub area_of-ours-requires : goal.area_of-ours-requires
area_of-ours-requires c = book_long c.args.book.now c.args.message.now c.requires.0

pub slice_bounds-accept_into-end-3 : goal.slice_bounds-accept_into-end-3
slice_bounds-accept_into-end-3 c =
    (head_lent c.args.book.now c.args.message.now c.requires.0).0

pub slice_bounds-accept_into-count-2 : goal.slice_bounds-accept_into-count-2
slice_bounds-accept_into-count-2 c =
    (head_lent c.args.book.now c.args.message.now c.requires.0).1

pub slice_bounds-accept_into-start-2 : goal.slice_bounds-accept_into-start-2
slice_bounds-accept_into-start-2 c =
    (head_lent c.args.book.now c.args.message.now c.requires.0).1

pub accept_into-requires : goal.accept_into-requires
accept_into-requires c = (
  lent_placing c.args.book.now c.args.message.now c.requires.0 c.n_of.result c.n_of.ensures c.area_of-ours.result c.area_of-ours.ensures,
  lent_handed c.args.book.now c.args.message.now _ _ _ _ c.requires.1,
)

pub returns : goal.returns
returns c = (
  lent_accepted c.args.book.now c.args.message.now c.requires.0 c.n_of.result c.n_of.ensures c.area_of-ours.result c.area_of-ours.ensures c.accept_into.new.slots (c.accept_into.auto.slots ∙ slots_length c.args.book.now) c.accept_into.ensures.0,
  lent_looks c.args.book.now c.args.message.now c.area_of-ours.result c.area_of-ours.ensures c.accept_into.result c.accept_into.ensures.1,
)

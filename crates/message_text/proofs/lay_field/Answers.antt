-- The last block is lent and back; before and behind it the others stay.
use Rattle.message_text.proofs.Laws.Lines.{field_back, lays_wrong, lays_right}
use Rattle.std.proofs.Common.{rules}
use Rattle.message_text.proofs.lay_field.Goals as goal

pub returns-then-not-fill_block : goal.returns-then-not-fill_block
returns-then-not-fill_block c = lays_wrong (field_back c.args.series _ _ c.args.room.now c.fill_block.ensures) c.if-not-fill_block.true

pub returns : goal.returns
returns c = lays_right (field_back c.args.series _ _ c.args.room.now c.fill_block.ensures) c.if-not-fill_block.false (search rules)

-- The first block is begun, then the lines are laid.
use Rattle.std.specs.Prelude.{◌≤◌}
use Rattle.laws.specs.Kit.{sym, arith, length, length-take-le, less_true}
use Rattle.message_text.specs.MessageText.{text_laid}
use Rattle.message_text.proofs.Laws.Lines.{text_laid_lem}
use Rattle.message_text.proofs.lay_text.Goals as goal

pub returns-then-room-lt512 : goal.returns-then-room-lt512
unfolding text_laid
returns-then-room-lt512 c = let e = less_true _ _ c.if-room-lt512.true in (rw e, rw e)

pub write_block-requires : goal.write_block-requires
write_block-requires c =
    let b = c.args.room.now in
    let h : 512 ≤ length b = omega arith in
    length-take-le 512 b h

pub returns : goal.returns
returns c = text_laid_lem _ _ _ c.args.room.now c.if-room-lt512.false c.write_block.ensures _ _ c.lay_lines.ensures

pub slice_bounds-write_block-end-2 : goal.slice_bounds-write_block-end-2
slice_bounds-write_block-end-2 c =
    let b = c.args.room.now in
    let h : 512 ≤ length b = omega arith in
    sym (length-take-le 512 b h)

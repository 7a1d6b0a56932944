-- The first block of a zeroed book is what the day block is written into; the others stay zero.
use Rattle.std.specs.Prelude.{◌≤◌}
use Rattle.laws.specs.Kit.{length-take-le, sym, arith, ap, length}
use Rattle.opening.proofs.Laws.Opened.{zeros_front, opened_zeros}
use Rattle.opening.proofs.write_opened.Goals as goal

pub write_day_block-requires : goal.write_day_block-requires
write_day_block-requires c =
    let front = zeros_front c.args.book.now c.requires.0 (c.fill.ensures.after (λ y e. e)) in
    (ap length front, front, c.requires.1)

pub returns : goal.returns
returns c =
    opened_zeros c.args.book.now c.requires.0 (c.fill.ensures.after (λ y e. e)) c.write_day_block.ensures

pub slice_bounds-write_day_block-end-2 : goal.slice_bounds-write_day_block-end-2
slice_bounds-write_day_block-end-2 c = let h : 512 ≤ length c.fill.new.self = omega arith in sym (length-take-le 512 c.fill.new.self h)

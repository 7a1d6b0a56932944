-- A line past the buffer's end is none; the others have the bytes that stand there.
use Rattle.laws.specs.Kit.{arith, sym, ◌∙◌, is}
use Rattle.desk_text.specs.Put.Laws.{none}
use Rattle.stream.specs.Buffer.{row_of, book_row}
use Rattle.stream.specs.Buffer.Laws.{row_past}
use Rattle.stream.proofs.buffer.book_row.Goals as goal

pub returns-then-book-i : goal.returns-then-book-i
returns-then-book-i c = rw (row_past _ _ c.if-book-i.true) (none 0 _ (omega arith))

pub returns-then-is_empty : goal.returns-then-is_empty
unfolding book_row row_of is
returns-then-is_empty c =
    let empty = rw c.part_of-row.ensures at (sym c.is_empty.ensures ∙ c.if-is_empty.true) in
    rw empty (none 0 _ (omega arith))

pub returns : goal.returns
unfolding book_row row_of is
returns c =
    let some = rw c.part_of-row.ensures at (sym c.is_empty.ensures ∙ c.if-is_empty.false) in
    rw some (rw c.part_of-row.ensures at c.hex_line.ensures)

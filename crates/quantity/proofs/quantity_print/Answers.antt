-- The code asks the definition's two questions in its order, a text being four bytes longer than its whole megawatts; only then it writes.
use Rattle.laws.specs.Kit.{◌∙◌}
use Rattle.quantity.proofs.Laws.Printing.{answer_large, into_large, answer_short, into_short, answer_text_lem, into_text}
use Rattle.quantity.proofs.quantity_print.Goals as goal

pub returns-then-kilowatts-gt9999999 : goal.returns-then-kilowatts-gt9999999
returns-then-kilowatts-gt9999999 c =
    let b = c.args.buffer.now in
    (answer_large _ b c.if-kilowatts-gt9999999.true, into_large _ b c.if-kilowatts-gt9999999.true)

pub returns-then-buffer-length : goal.returns-then-buffer-length
returns-then-buffer-length c =
    let b = c.args.buffer.now in
    let e = c.width_of-length.ensures.0 in
    (answer_short _ b _ c.if-kilowatts-gt9999999.false e c.if-buffer-length.true, into_short _ b _ c.if-kilowatts-gt9999999.false e c.if-buffer-length.true)

pub returns : goal.returns
returns c =
    let b = c.args.buffer.now in
    let e = c.width_of-length.ensures.0 in
    (answer_text_lem _ b _ c.if-kilowatts-gt9999999.false e c.if-buffer-length.false, c.put_text.ensures ∙ into_text _ b _ c.if-kilowatts-gt9999999.false e c.if-buffer-length.false)

-- Past soundness the answer is the state's own; the clock is written only where that is 0, and over the day block alone.
use Rattle.laws.specs.Kit.{length-take-le, sym}
use Rattle.clock.proofs.Laws.{book_long, clock_unsound, clock_refused, clock_moved_lem}
use Rattle.laws.specs.Kit.{◌∙◌}
use Rattle.clock.proofs.clock.Goals as goal

pub returns-then-not-sound : goal.returns-then-not-sound
returns-then-not-sound c = clock_unsound _ _ (sym c.sound.ensures ∙ c.if-not-sound.true)

pub returns-then-answer-ne0 : goal.returns-then-answer-ne0
returns-then-answer-ne0 c =
    clock_refused _ _ (sym c.sound.ensures ∙ c.if-not-sound.false) c.part_of.ensures c.day_state.ensures c.advanced-answer.ensures c.if-answer-ne0.true

pub slice_bounds-write_clock-end : goal.slice_bounds-write_clock-end
slice_bounds-write_clock-end c = book_long _ (sym c.sound.ensures ∙ c.if-not-sound.false)

pub returns : goal.returns
returns c =
    clock_moved_lem _ _ (sym c.sound.ensures ∙ c.if-not-sound.false) c.part_of.ensures c.day_state.ensures c.advanced-answer.ensures c.if-answer-ne0.false c.write_clock.ensures

pub slice_bounds-write_clock-end-2 : goal.slice_bounds-write_clock-end-2
slice_bounds-write_clock-end-2 c =
    let book = c.args.book.now in
    sym (length-take-le 512 book (book_long book (sym c.sound.ensures ∙ c.if-not-sound.false)))

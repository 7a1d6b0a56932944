-- The blocks before the first free one are the day block and the used ones; behind them all must be free, and then every check there is right.
use Rattle.laws.specs.Kit.{arith, sym, length-take-le, ◌and◌}
use Rattle.sound.proofs.Laws.Book.{not_whole, day_inside, filled_inside, filled_length, sound_split}
use Rattle.laws.specs.Kit.{◌∙◌}
use Rattle.sound.proofs.sound_over.Goals as goal

pub returns-then-not-whole_blocks : goal.returns-then-not-whole_blocks
returns-then-not-whole_blocks c = sym (not_whole _ _ (sym c.whole_blocks.ensures ∙ c.if-not-whole_blocks.true))

pub slice_bounds-used_count-count : goal.slice_bounds-used_count-count
slice_bounds-used_count-count c = omega (arith, day_inside _ (sym c.whole_blocks.ensures ∙ c.if-not-whole_blocks.false))

pub slice_bounds-used_count-start : goal.slice_bounds-used_count-start
slice_bounds-used_count-start c = omega (arith, day_inside _ (sym c.whole_blocks.ensures ∙ c.if-not-whole_blocks.false))

pub slice_bounds-all_zero-count : goal.slice_bounds-all_zero-count
slice_bounds-all_zero-count c =
    omega (arith, filled_inside _ (sym c.whole_blocks.ensures ∙ c.if-not-whole_blocks.false) _ c.used_count.ensures.1)

pub slice_bounds-all_zero-start : goal.slice_bounds-all_zero-start
slice_bounds-all_zero-start c =
    omega (arith, filled_inside _ (sym c.whole_blocks.ensures ∙ c.if-not-whole_blocks.false) _ c.used_count.ensures.1)

pub returns-then-not-all_zero : goal.returns-then-not-all_zero
unfolding ◌and◌
returns-then-not-all_zero c =
    rw (sound_split _ (sym c.whole_blocks.ensures ∙ c.if-not-whole_blocks.false) _ c.used_count.ensures.1 c.used_count.ensures.0 _, (sym c.all_zero.ensures ∙ c.if-not-all_zero.true))

pub slice_bounds-filled_sound-end : goal.slice_bounds-filled_sound-end
slice_bounds-filled_sound-end c =
    sym (length-take-le _ _ (filled_inside _ (sym c.whole_blocks.ensures ∙ c.if-not-whole_blocks.false) _ c.used_count.ensures.1))

pub filled_sound-requires : goal.filled_sound-requires
filled_sound-requires c =
    filled_length _ (sym c.whole_blocks.ensures ∙ c.if-not-whole_blocks.false) _ c.used_count.ensures.1

pub returns : goal.returns
unfolding ◌and◌
returns c =
    rw (sound_split _ (sym c.whole_blocks.ensures ∙ c.if-not-whole_blocks.false) _ c.used_count.ensures.1 c.used_count.ensures.0 _, (sym c.all_zero.ensures ∙ c.if-not-all_zero.false)) c.filled_sound.ensures

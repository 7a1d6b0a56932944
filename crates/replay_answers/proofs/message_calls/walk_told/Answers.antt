-- What is counted and summed so far and what is left to ask for still give the whole walk.
use Rattle.std.specs.Prelude.{◌≡◌, [], ◌∷◌}
use Rattle.laws.specs.Kit.{arith, sym, ap, ◌∙◌, is}
use Rattle.replay_answers.specs.Answers.{walk_on, walk_numbers}
use Rattle.replay_answers.specs.Answers.Laws.{walk_more, walk_stop, walk_end}
use Rattle.replay_answers.proofs.message_calls.walk_told.Goals as goal

pub returns-then-is_empty : goal.returns-then-is_empty
unfolding walk_numbers is
returns-then-is_empty c =
    let empty = rw c.series_at-series.ensures at (sym c.is_empty.ensures ∙ c.if-is_empty.true) in
    c.«of».ensures ∙ sym (walk_stop _ _ _ c.loop-count-test.true empty) ∙ c.loop-count.invariant.1 ∙ ap (λ m. walk_on 200 m 0 0) c.readable-read.ensures

pub loop-count-preserved : goal.loop-count-preserved
unfolding is
loop-count-preserved c =
    let some = rw c.series_at-series.ensures at (sym c.is_empty.ensures ∙ c.if-is_empty.false) in
    (omega arith, rw (c.sum_on-sum.ensures, c.series_at-series.ensures) (walk_more _ _ _ c.loop-count-test.true some ∙ c.loop-count.invariant.1))

pub returns : goal.returns
unfolding walk_numbers
returns c =
    let l = c.loop-count in
    let all : 200 ≡ l.count = omega arith in
    c.of-2.ensures ∙ ap (λ k. k ∷ l.sum ∷ []) all ∙ sym (walk_end _ _ _ c.loop-count-test.false) ∙ l.invariant.1 ∙ ap (λ m. walk_on 200 m 0 0) c.readable-read.ensures

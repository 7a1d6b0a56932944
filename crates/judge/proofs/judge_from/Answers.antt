-- The rules of the first block come first, then the series, then the rules of the whole.
use Rattle.std.proofs.Common.{rules}
use Rattle.std.specs.Prelude.{◌≡◌, Err}
use Rattle.judge.proofs.Laws.Places.{sizes}
use Rattle.judge.proofs.Laws.Joined.{judged_head, judged_last, judged_series, if_ok_both}
use Rattle.judge.proofs.judge_from.Goals as goal

pub returns-in_err-head_verdict : goal.returns-in_err-head_verdict
returns-in_err-head_verdict c =
    let e : c.from_residual.result ≡ Err c.in_err-head_verdict.field-0.0 = search rules in
    (judged_head _ _ _ _ _ c.requires.0 (rw (c.numbered.ensures, c.head_of.ensures) at c.in_err-head_verdict.ensures) e, rw e tt)

pub walk-requires : goal.walk-requires
walk-requires c = (c.requires.1, c.requires.2)

pub returns-in_err-walk : goal.returns-in_err-walk
returns-in_err-walk c =
    let e : c.from_residual-in_err-walk.result ≡ Err c.in_err-walk.field-0.0 = search rules in
    (judged_series _ _ _ _ _ c.requires.0 (rw (c.numbered.ensures, c.head_of.ensures) at c.in_ok-head_verdict.ensures) c.in_err-walk.ensures.0 e, rw e tt)

pub look_up-requires : goal.look_up-requires
look_up-requires c =
    let z = sizes _ _ c.series_of-series.ensures c.requires.1 in
    (z.1, z.0, c.requires.3)

pub last_verdict-requires : goal.last_verdict-requires
last_verdict-requires c =
    (rw c.series_of-series.ensures c.requires.1, rw c.series_of-series.ensures c.in_ok-walk.ensures.1, c.look_up.ensures)

pub returns : goal.returns
returns c = (
  judged_last _ _ _ _ _ c.requires.0 (rw (c.numbered.ensures, c.head_of.ensures) at c.in_ok-head_verdict.ensures) c.in_ok-walk.ensures.0 (rw c.series_of-series.ensures at c.last_verdict.ensures),
  if_ok_both _ c.in_ok-walk.ensures.1 (rw c.series_of-series.ensures at c.look_up.ensures),
)

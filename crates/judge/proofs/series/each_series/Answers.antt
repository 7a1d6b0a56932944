-- No series passed by is refused, so that the first that is decides, and the end too; the sums are kept along the way.
use Rattle.std.proofs.Common.{rules}
use Rattle.std.specs.Prelude.{◌≡◌, ◌≤◌, Err}
use Rattle.laws.specs.Kit.{ap, arith, length, refl, is, ◌and◌}
use Rattle.laws.specs.Cut.Laws.{cut_length}
use Rattle.laws.specs.Lists.{every}
use Rattle.paper.specs.Layout.{zeros}
use Rattle.paper.specs.Message.{series_of}
use Rattle.judge.specs.Order.{each_series_of}
use Rattle.judge.proofs.Laws.Sums.{most_zeros, kept_for}
use Rattle.judge.proofs.Laws.Series.{series_at_lem, each_end, each_go, each_hit}
use Rattle.judge.proofs.series.each_series.Goals as goal

pub loop-i-init : goal.loop-i-init
unfolding zeros every is ◌and◌
loop-i-init c =
    let k : length (series_of c.args.message.now) ≤ 200 = c.requires.0.short in
    (omega (arith, cut_length 512 c.series_of-series.result.now, ap length c.series_of-series.ensures), refl, record { sum = λ n. absurd (n refl); most = most_zeros _ refl refl })

pub sums_with-on-requires : goal.sums_with-on-requires
sums_with-on-requires c = let l = c.loop-i in (omega arith, l.invariant.2)

pub returns-in_err-series_verdict : goal.returns-in_err-series_verdict
unfolding each_series_of
returns-in_err-series_verdict c =
    let e = c.series_of-series.ensures in
    let g = c.head_of-h.ensures in
    let f : c.from_residual.result ≡ Err c.in_err-series_verdict.field-0.0 = search rules in
    rw (g, e) at
    (each_hit _ _ _ _ _ _ c.loop-i.invariant.1 c.loop-i-test.true
    (series_at_lem _ _ _ _ _ _ e g c.requires.0 c.requires.1 _ c.loop-i-test.true _ _ c.known_otherwise-otherwise.ensures (kept_for _ _ _ _ _ c.sums_with-on.ensures.0 c.sums_with-on.ensures.1) c.block_at.ensures c.in_err-series_verdict.ensures) f)

pub loop-i-preserved : goal.loop-i-preserved
loop-i-preserved c =
    let e = c.series_of-series.ensures in
    let g = c.head_of-h.ensures in (
      c.loop-i.invariant.0,
      each_go _ _ _ _ _ _ c.loop-i.invariant.1 c.loop-i-test.true
          (series_at_lem _ _ _ _ _ _ e g c.requires.0 c.requires.1 _ c.loop-i-test.true _ _ c.known_otherwise-otherwise.ensures (kept_for _ _ _ _ _ c.sums_with-on.ensures.0 c.sums_with-on.ensures.1) c.block_at.ensures c.in_ok-series_verdict.ensures),
      c.sums_with-on.ensures.0,
    )

pub returns : goal.returns
unfolding each_series_of
returns c =
    rw (c.head_of-h.ensures, c.series_of-series.ensures) at (each_end _ _ _ _ _ _ c.loop-i.invariant.1 c.loop-i-test.false)

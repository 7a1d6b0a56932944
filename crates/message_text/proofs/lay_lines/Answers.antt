-- What the lines passed have laid, and the lines ahead, give what all lines give.
use Rattle.std.specs.Prelude.{◌≡◌}
use Rattle.laws.specs.Kit.{arith, refl, sym, length}
use Rattle.message_text.proofs.Laws.Lines.{lines_on, lines_end, lines_stop, wrong_line, reads_wrong}
use Rattle.std.proofs.Common.{rules}
use Rattle.message_text.proofs.lay_lines.Goals as goal

pub loop-line-init : goal.loop-line-init
loop-line-init c = (omega arith, omega arith, refl, refl)

pub returns-in_err-series : goal.returns-in_err-series
returns-in_err-series c =
    let l = c.loop-line in
    let f = c.in-Some.ensures in
    let p = lines_stop l.number l.series l.rest.now l.room l.invariant.3 f.0 f.1 (rw c.in_err-series.ensures.ok_part at c.lay_line.ensures) in
    let n = rw c.in_err-series.ensures.ok_part at c.in_err-series.ensures.value in
    reads_wrong _ _ _ _ c.from_residual.ensures.0 c.from_residual.ensures.1 (rw (wrong_line _ _ n) (sym p.0)) p.1

pub loop-line-preserved : goal.loop-line-preserved
loop-line-preserved c =
    let l = c.loop-line in
    let f = c.in-Some.ensures in
    let q = rw c.in_ok-series.ensures.ok_part at c.lay_line.ensures in
    (omega (arith, f.3, l.invariant.0), q.0.1, search rules, lines_on l.number l.series l.rest.now l.room l.invariant.3 f.0 f.1 q f.2)

pub returns : goal.returns
returns c =
    let l = c.loop-line in
    let none : length l.rest.now ≡ 0 = c.in_default.ensures in
    let p = lines_end l.number l.series l.rest.now l.room l.invariant.3 (omega arith) in
    ((sym p.0, l.invariant.1), p.1)

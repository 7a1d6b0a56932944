-- What is still to be put, over the line as it stands, gives what all of it gives over the line as it came; behind the last byte that has room nothing is put.
use Rattle.std.specs.Prelude.{◌≡◌, ◌-◌, min, length}
use Rattle.laws.specs.Kit.{arith, refl, length-set, ◌∙◌, add-zero}
use Rattle.desk_text.proofs.Laws.{put_turn, put_all}
use Rattle.desk_text.proofs.put.put.Goals as goal

pub loop-i-init : goal.loop-i-init
loop-i-init c = (refl, omega (arith, c.min-start.ensures), rw (add-zero c.min-start.result) refl)

pub returns-then-line-start : goal.returns-then-line-start
returns-then-line-start c =
    let v = c.loop-i.invariant in
    let full : c.loop-i.i ≡ min (length c.args.s.now) (length c.args.line.now - c.min-start.result) = omega (arith, v.0, v.1, c.if-line-start.true, c.loop-i-test.true) in
    put_all _ _ _ _ _ c.min-start.ensures full v.0 v.2

pub loop-i-preserved : goal.loop-i-preserved
loop-i-preserved c =
    let v = c.loop-i.invariant in
    (length-set _ _ _ ∙ v.0, rw (length-set _ _ _) (omega (arith, c.if-line-start.false)), put_turn _ _ _ _ c.loop-i-test.true v.2)

pub returns : goal.returns
returns c =
    let v = c.loop-i.invariant in
    let all : c.loop-i.i ≡ length c.args.s.now = omega (arith, c.loop-i.auto.i-end, c.loop-i-test.false) in
    let whole : length c.args.s.now ≡ min (length c.args.s.now) (length c.args.line.now - c.min-start.result) = omega (arith, v.0, v.1, all) in
    put_all _ _ _ _ _ c.min-start.ensures whole v.0 (rw all at v.2)

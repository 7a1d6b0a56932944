-- Where a message has room the sender's block counts the series, then the series' block is begun behind the others; otherwise nothing is.
use Rattle.std.specs.Prelude.{◌≤◌, ◌+◌, ◌*◌}
use Rattle.laws.specs.Kit.{length-take-le, not, arith, sym, ap, length, told, denied, refl, ◌and◌, is, upto, upto_true, upto_false}
use Rattle.paper.specs.Layout.{kind}
use Rattle.message_text.proofs.Laws.Lines.{room_fits, begun_none, begun_fits, lays_wrong, lays_right}
use Rattle.laws.specs.Kit.{◌∙◌}
use Rattle.std.proofs.Common.{rules}
use Rattle.message_text.proofs.begin_series.Goals as goal

pub returns-then-not-kind-start : goal.returns-then-not-kind-start
unfolding ◌and◌ is upto
returns-then-not-kind-start c =
    let a = c.args in
    lays_wrong (begun_none _ _ _ (denied (ap (λ x. is x 1 and upto (512 * (a.series + 1) + 512) (length a.room.now)) c.kind.ensures) (ap not c.if-not-kind-start.true))) refl

pub slice_bounds-write_block-end : goal.slice_bounds-write_block-end
unfolding ◌and◌ is upto
slice_bounds-write_block-end c =
    let a = c.args in
    omega (arith, room_fits c.kind.result (512 * (a.series + 1) + 512) (length a.room.now) (sym refl ∙ c.if-not-kind-start.false))

pub returns-then-id-gt16 : goal.returns-then-id-gt16
unfolding ◌and◌ is upto
returns-then-id-gt16 c =
    let a = c.args in
    let t = told (ap (λ x. is x 1 and upto (512 * (a.series + 1) + 512) (length a.room.now)) c.kind.ensures) (ap not c.if-not-kind-start.false) in
    lays_wrong (begun_fits a.series a.id.now a.room.now t c.n_of-n.ensures c.version-v.ensures c.count_series.ensures c.write_block.ensures) (upto_false _ _ c.if-id-gt16.true)

pub returns : goal.returns
unfolding ◌and◌ is upto
returns c =
    let a = c.args in
    let t = told (ap (λ x. is x 1 and upto (512 * (a.series + 1) + 512) (length a.room.now)) c.kind.ensures) (ap not c.if-not-kind-start.false) in
    lays_right (begun_fits a.series a.id.now a.room.now t c.n_of-n.ensures c.version-v.ensures c.count_series.ensures c.write_block.ensures) (upto_true _ _ c.if-id-gt16.false)
    (let h = room_fits (kind a.room.now) (512 * (a.series + 1) + 512) (length a.room.now) t in search rules)

pub slice_bounds-count_series-end-2 : goal.slice_bounds-count_series-end-2
slice_bounds-count_series-end-2 c =
    let b = c.args.room.now in
    let h : 512 ≤ length b = omega arith in
    sym (length-take-le 512 b h)

-- The code asks whether three names fill the body, and the answer told is the opening's with these.
use Rattle.std.specs.Prelude.{◌<◌}
use Rattle.laws.specs.Kit.{arith, length, refl, is_equal, is_other}
use Rattle.replay_answers.specs.Answers.{open_told, opening_of, three_names, open_numbers, open_after}
use Rattle.replay_answers.specs.Answers.Laws.{none_behind, none_fills}
use Rattle.replay_answers.proofs.day_calls.open.Goals as goal

pub returns-in_err-day : goal.returns-in_err-day
unfolding open_numbers open_after three_names
returns-in_err-day c =
    let h : length c.args.body.now < 18446744073709551615 = omega arith in
    rw (c.from_residual.ensures, c.in_err-day.ensures, none_behind _ h, none_behind _ h, none_fills _ h) (refl, refl)

pub returns-in_err-area : goal.returns-in_err-area
unfolding open_numbers open_after three_names
returns-in_err-area c =
    let h : length c.args.body.now < 18446744073709551615 = omega arith in
    rw (c.from_residual-in_err-area.ensures, ← c.in_ok-day.ensures.1, c.in_err-area.ensures, none_behind _ h, none_fills _ h) (refl, refl)

pub returns-in_err-receiver : goal.returns-in_err-receiver
unfolding open_numbers open_after three_names
returns-in_err-receiver c =
    let h : length c.args.body.now < 18446744073709551615 = omega arith in
    rw (c.from_residual-in_err-receiver.ensures, ← c.in_ok-day.ensures.1, ← c.in_ok-area.ensures.1, c.in_err-receiver.ensures, none_fills _ h) (refl, refl)

pub returns-then-end-body : goal.returns-then-end-body
unfolding open_numbers open_after three_names
returns-then-end-body c =
    rw (← c.in_ok-day.ensures.1, ← c.in_ok-area.ensures.1, ← c.in_ok-receiver.ensures.1, is_other _ _ c.if-end-body.true) (refl, refl)

pub returns : goal.returns
unfolding open_numbers open_after three_names opening_of open_told
returns c =
    let d = c.in_ok-day.ensures in
    let a = c.in_ok-area.ensures in
    let r = c.in_ok-receiver.ensures in
    let k = rw (d.0, a.0, r.0, c.byte_or_zero-n.ensures, c.number_2-lead.ensures) at c.open_by-a.ensures in
    rw (← d.1, ← a.1, ← r.1, is_equal _ _ c.if-end-body.false) (rw k.0 at c.«of».ensures, k.1)

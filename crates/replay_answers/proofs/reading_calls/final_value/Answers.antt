-- The code asks whether two bytes are left behind two names, and the answer told is the final value's of these.
use Rattle.std.specs.Prelude.{◌<◌}
use Rattle.laws.specs.Kit.{arith, length, is_equal, is_other}
use Rattle.replay_answers.specs.Answers.{final_told, first_name, second_name, behind_two, final_numbers}
use Rattle.replay_answers.specs.Answers.Laws.{none_behind, none_left}
use Rattle.replay_answers.proofs.reading_calls.final_value.Goals as goal

pub returns-in_err-out_party : goal.returns-in_err-out_party
unfolding final_numbers behind_two
returns-in_err-out_party c =
    let h : length c.args.body.now < 18446744073709551615 = omega arith in
    rw (c.from_residual.ensures, c.in_err-out_party.ensures, none_behind _ h, none_left _ h)

pub returns-in_err-in_party : goal.returns-in_err-in_party
unfolding final_numbers behind_two
returns-in_err-in_party c =
    let h : length c.args.body.now < 18446744073709551615 = omega arith in
    rw (c.from_residual-in_err-in_party.ensures, ← c.in_ok-out_party.ensures.1, c.in_err-in_party.ensures, none_left _ h)

pub returns-then-rest_from-ne2 : goal.returns-then-rest_from-ne2
unfolding final_numbers behind_two
returns-then-rest_from-ne2 c =
    rw (← c.in_ok-out_party.ensures.1, ← c.in_ok-in_party.ensures.1, is_other _ _ (rw c.rest_from.ensures at c.if-rest_from-ne2.true))

pub returns : goal.returns
unfolding final_numbers behind_two first_name second_name final_told
returns c =
    let n = c.in_ok-out_party.ensures in
    let m = c.in_ok-in_party.ensures in
    let filled = rw c.rest_from.ensures at c.if-rest_from-ne2.false in
    rw (← n.1, ← m.1, is_equal _ _ filled) (rw (c.final_value-f.ensures, n.0, m.0, c.number_2.ensures) at c.«of».ensures)

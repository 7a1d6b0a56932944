-- The code asks whether two bytes are left behind a name, and the answer told is that of the party and the position.
use Rattle.std.specs.Prelude.{◌<◌}
use Rattle.laws.specs.Kit.{arith, length, is_equal, is_other}
use Rattle.replay_answers.specs.Answers.{settled_told, first_name, settled_numbers}
use Rattle.replay_answers.specs.Answers.Laws.{none_left}
use Rattle.replay_answers.proofs.reading_calls.settled.Goals as goal

pub returns-in_err-party : goal.returns-in_err-party
unfolding settled_numbers
returns-in_err-party c =
    let h : length c.args.body.now < 18446744073709551615 = omega arith in
    rw (c.from_residual.ensures, c.in_err-party.ensures, none_left _ h)

pub returns-then-rest_from-ne2 : goal.returns-then-rest_from-ne2
unfolding settled_numbers
returns-then-rest_from-ne2 c = rw (← c.in_ok-party.ensures.1, is_other _ _ (rw c.rest_from.ensures at c.if-rest_from-ne2.true))

pub returns : goal.returns
unfolding settled_numbers first_name settled_told
returns c =
    let n = c.in_ok-party.ensures in
    let filled = rw c.rest_from.ensures at c.if-rest_from-ne2.false in
    rw (← n.1, is_equal _ _ filled) (rw (c.settled-s.ensures, n.0, c.number_2.ensures) at c.«of».ensures)

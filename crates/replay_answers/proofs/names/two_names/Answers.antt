-- A name that is none leaves nothing that could fill the body.
use Rattle.std.specs.Prelude.{◌<◌}
use Rattle.laws.specs.Kit.{arith, length, is_equal, is_other}
use Rattle.replay_answers.specs.Answers.{first_name, second_name, behind_two, two_names}
use Rattle.replay_answers.specs.Answers.Laws.{none_behind, none_fills}
use Rattle.replay_answers.proofs.names.two_names.Goals as goal

pub returns-in_err-sender : goal.returns-in_err-sender
unfolding two_names behind_two
returns-in_err-sender c =
    let h : length c.args.body.now < 18446744073709551615 = omega arith in
    rw (c.from_residual.ensures, c.in_err-sender.ensures, none_behind _ h) (none_fills _ h)

pub returns-in_err-id : goal.returns-in_err-id
unfolding two_names behind_two
returns-in_err-id c =
    let h : length c.args.body.now < 18446744073709551615 = omega arith in
    rw (c.from_residual-in_err-id.ensures, ← c.in_ok-sender.ensures.1, c.in_err-id.ensures) (none_fills _ h)

pub returns-then-end-body : goal.returns-then-end-body
unfolding two_names behind_two
returns-then-end-body c = rw (← c.in_ok-sender.ensures.1, ← c.in_ok-id.ensures.1) (is_other _ _ c.if-end-body.true)

pub returns : goal.returns
unfolding two_names behind_two first_name second_name
returns c =
    let n = c.in_ok-sender.ensures in
    let m = c.in_ok-id.ensures in
    (rw (← n.1, ← m.1) (is_equal _ _ c.if-end-body.false), n.0, rw n.1 at m.0)

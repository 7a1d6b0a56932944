-- The code asks of what lies behind the offset whether the bytes pass it, so that no sum passes the largest number.
use Rattle.std.specs.Prelude.{◌+◌, ◌≤◌}
use Rattle.laws.specs.Kit.{arith, upto_true, upto_false}
use Rattle.stream.specs.Buffer.{bytes_numbers}
use Rattle.stream.proofs.buffer.bytes_told.Goals as goal

pub returns-in_err-checked_sub : goal.returns-in_err-checked_sub
unfolding bytes_numbers
returns-in_err-checked_sub c =
    let a = c.args in
    rw (c.from_residual.ensures, upto_false (a.offset + a.count) a.size (let h : a.offset ≤ a.size → ⊥ = c.in_err-checked_sub.ensures in omega arith))

pub returns-then-branch-count : goal.returns-then-branch-count
unfolding bytes_numbers
returns-then-branch-count c =
    let a = c.args in
    rw (upto_false (a.offset + a.count) a.size (omega (arith, c.in_ok-checked_sub.ensures)))

pub returns : goal.returns
unfolding bytes_numbers
returns c =
    let a = c.args in
    rw (upto_true (a.offset + a.count) a.size (omega (arith, c.in_ok-checked_sub.ensures))) c.«of».ensures

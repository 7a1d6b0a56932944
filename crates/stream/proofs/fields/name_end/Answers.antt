-- Each way out is a clause of the definition's test; past them all the name ends inside the body.
use Rattle.std.specs.Prelude.{◌≡◌, ◌≤◌, ◌<◌, ◌+◌, ◌-◌}
use Rattle.laws.specs.Kit.{arith, split, true, false, ℕ, List, length, ◌or◌, less, upto, or_no, or_left, or_else, or_yes_left, or_yes_right, less_false, less_no, upto_true, upto_false, upto_yes}
use Rattle.laws.specs.Tests.Laws.{or_right, upto_no}
use Rattle.laws.specs.Bytes.{number}
use Rattle.stream.specs.Fields.{name_end}
use Rattle.stream.proofs.fields.name_end.Goals as goal

module _ (body : List ℕ) (at : ℕ) where
  none : (upto (length body) at or less 64 (number 1 at body) or upto (length body) (at + number 1 at body)) ≡ true → 18446744073709551615 ≡ name_end body at
  unfolding name_end
  none e = rw e

  module _ (n room : ℕ) (q : n ≡ number 1 at body) (h : at ≤ length body) (r : room ≡ length body - at) where
    out : (less 64 n or upto room n) ≡ true → 18446744073709551615 ≡ name_end body at
    out e = none (split (less 64 n)
        (λ t. or_yes_left _ _ (or_yes_right _ _ (rw q at t)))
        (λ t. or_yes_right _ _ (upto_true _ _ (let k : room ≤ n = upto_yes room n (or_else (less 64 n) (upto room n) e t) in omega arith))))

    some : (less 64 n or upto room n) ≡ false → at + 1 + n ≡ name_end body at
    unfolding name_end
    some e =
        let k : n < room = upto_no room n (or_right (less 64 n) (upto room n) e) in
        let j : at < length body = omega arith in
        let i : n ≤ 64 = less_no 64 n (or_left (less 64 n) (upto room n) e) in
        rw (or_no _ _ (or_no _ _ (upto_false (length body) at j) (less_false 64 (number 1 at body) (rw q at i))) (upto_false (length body) (at + number 1 at body) (omega arith))) (rw q)

pub returns-in_err-checked_sub : goal.returns-in_err-checked_sub
returns-in_err-checked_sub c =
    let h : c.args.at ≤ length c.args.body.now → ⊥ = c.in_err-checked_sub.ensures in
    rw c.from_residual.ensures (none _ _ (or_yes_left _ _ (or_yes_left _ _ (upto_true _ _ (omega arith)))))

pub returns-then-branch-n : goal.returns-then-branch-n
unfolding ◌or◌ less upto
returns-then-branch-n c = let k = c.in_ok-checked_sub.ensures in out _ _ _ _ c.byte_or_zero-n.ensures k.0 k.1 c.if-branch-n.true

pub returns : goal.returns
unfolding ◌or◌ less upto
returns c = let k = c.in_ok-checked_sub.ensures in some _ _ _ _ c.byte_or_zero-n.ensures k.0 k.1 c.if-branch-n.false

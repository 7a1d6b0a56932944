-- The digits counted and those of what is left are the digits of the number.
use Rattle.std.specs.Prelude.{◌≡◌, ◌≤◌, ◌-◌, ◌+◌}
use Rattle.laws.specs.Kit.{arith}
use Rattle.quantity.proofs.Laws.Printing.{places_hit, places_none, places_turn}
use Rattle.quantity.proofs.digits.places.Goals as goal

pub loop-k-init : goal.loop-k-init
loop-k-init c = let z : c.args.most - 0 ≡ c.args.most = omega arith in (omega arith, rw z (omega arith))

pub returns-then-rest-lt10 : goal.returns-then-rest-lt10
returns-then-rest-lt10 c =
    (omega (arith, places_hit (c.args.most - c.loop-k.k) c.loop-k.rest c.if-rest-lt10.true), omega arith)

pub loop-k-preserved : goal.loop-k-preserved
loop-k-preserved c =
    let m = c.args.most in
    let k = c.loop-k.k in
    let e : m - k - 1 ≡ m - (k + 1) = omega arith in
    (omega arith, rw (← e) (omega (arith, places_turn (m - k) c.loop-k.rest (omega arith) c.if-rest-lt10.false)))

pub returns : goal.returns
returns c =
    let h : c.args.most - c.loop-k.k ≤ 0 = omega arith in
    (omega (arith, places_none (c.args.most - c.loop-k.k) c.loop-k.rest h), omega arith)

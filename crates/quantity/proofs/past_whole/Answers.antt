-- The code asks the definition's questions in its order.
use Rattle.std.specs.Prelude.{◌≡◌}
use Rattle.laws.specs.Kit.{refl, sym, ap, ◌∙◌, arith, true, false, length, get_or, is}
use Rattle.paper.specs.QuantityText.{past_point, past_whole}
use Rattle.quantity.proofs.Laws.Reading.{starts_with}
use Rattle.quantity.proofs.past_whole.Goals as goal

pub returns-then-is_empty : goal.returns-then-is_empty
unfolding past_whole is
returns-then-is_empty c = let empty : is (length c.args.s.now) 0 ≡ true = sym c.if-is_empty.ensures in rw empty refl

pub returns-in-Some : goal.returns-in-Some
unfolding past_whole is
returns-in-Some c =
    let more : is (length c.args.s.now) 0 ≡ false = sym c.if-is_empty.ensures in
    let point : is (get_or c.args.s.now 0 0) 46 ≡ true = sym (starts_with c.args.s.now 46 (omega arith)) ∙ c.in-Some.ensures.cases.0 in
    c.past_point.ensures ∙ ap (past_point c.args.w) c.in-Some.ensures.cases.1 ∙ rw (more, point) refl

pub returns-in-None : goal.returns-in-None
unfolding past_whole is
returns-in-None c =
    let more : is (length c.args.s.now) 0 ≡ false = sym c.if-is_empty.ensures in
    let other : is (get_or c.args.s.now 0 0) 46 ≡ false = sym (starts_with c.args.s.now 46 (omega arith)) ∙ c.in-None.ensures.cases in
    rw (more, other) refl

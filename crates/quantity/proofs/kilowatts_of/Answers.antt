-- The code asks the definition's question of the first byte, and a minus changes the answer as past_minus does.
use Rattle.std.specs.Prelude.{◌≡◌}
use Rattle.laws.specs.Kit.{refl, sym, ap, ◌∙◌, arith, true, false, get_or, is, ℕ}
use Rattle.paper.specs.QuantityText.{past_minus, unsigned_read, quantity_read}
use Rattle.quantity.proofs.Laws.Reading.{starts_with}
use Rattle.std.specs.Prelude.{Option, None, Some}
use Rattle.std.specs.Option.{ok_or}
use Rattle.quantity.specs.declared.NoQuantity.TheVariants.{NotText}
use Rattle.quantity.specs.Told.{read_of, told}
use Rattle.quantity.proofs.kilowatts_of.Goals as goal

-- what is none without a minus is no text
no_text : (read : Option ℕ) → told (ok_or read NotText) ≡ read_of read
no_text None = refl
no_text (Some kilowatts) = refl

pub returns-in-Some-unsigned_read : goal.returns-in-Some-unsigned_read
unfolding quantity_read past_minus is
returns-in-Some-unsigned_read c =
    let minus : is (get_or c.args.s.now 0 0) 45 ≡ true = sym (starts_with c.args.s.now 45 (omega arith)) ∙ c.in-Some.ensures.cases.0 in
    ap past_minus (c.in-Some-unsigned_read.ensures ∙ ap unsigned_read c.in-Some.ensures.cases.1) ∙ rw minus refl

pub returns-in-None-unsigned_read : goal.returns-in-None-unsigned_read
unfolding quantity_read past_minus is
returns-in-None-unsigned_read c =
    let minus : is (get_or c.args.s.now 0 0) 45 ≡ true = sym (starts_with c.args.s.now 45 (omega arith)) ∙ c.in-Some.ensures.cases.0 in
    ap past_minus (c.in-None-unsigned_read.ensures ∙ ap unsigned_read c.in-Some.ensures.cases.1) ∙ rw minus refl

pub returns-in-None : goal.returns-in-None
unfolding quantity_read
returns-in-None c =
    let other : is (get_or c.args.s.now 0 0) 45 ≡ false = sym (starts_with c.args.s.now 45 (omega arith)) ∙ c.in-None.ensures.cases in
    rw other (ap told c.ok_or.ensures.value ∙ no_text _ ∙ c.unsigned_read-in-None.ensures)

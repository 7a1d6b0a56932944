-- "Other calls": open.
use Rattle.std.specs.Prelude.{Bool, cond, [], ◌∷◌, ◌++◌, ℕ, ◌-◌, length, replicate}
use Rattle.laws.specs.Tests.{◌and◌, neg, is}
use Rattle.laws.specs.Bytes.{little}
use Rattle.paper.specs.declared.Rule.{Rule}
use Rattle.paper.specs.declared.OpenAnswer.{OpenAnswer}
use Rattle.paper.specs.Check.{sealed}
use Rattle.paper.specs.Layout.{Bytes, Block, lesser_rule}
use Rattle.paper.specs.Ranges.{whole_blocks, lead_allowed}
use Rattle.paper.specs.Eic.{eic_number_of_two}
use Rattle.paper.specs.Sound.{day_sound}

-- the parameters
pub record Opening : Type 0 where
  pub n : ℕ
  pub lead : ℕ
  pub rule : Rule
  pub day : Bytes
  pub area : Bytes
  pub receiver : Bytes

-- those of a call that names no rule: "an open call that names none writes 1"
abbrev pub naming_none : (n : ℕ) (lead : ℕ) (day : Bytes) (area : Bytes) (receiver : Bytes) → Opening
naming_none n lead day area receiver = record { n = n; lead = lead; rule = lesser_rule; day = day; area = area; receiver = receiver }

-- the day block of the layout's table, "with clock −10,080"
unfoldable pub day_block_of : (o : Opening) → Block
day_block_of o = sealed (3 ∷ o.n ∷ little 2 o.lead ++ little 2 0 ++ (o.rule.0 ∷ 0 ∷ []) ++ o.day ++ replicate 8 0 ++ o.area ++ o.receiver ++ replicate 456 0)

-- parameters that a sound day block holds, a rule that is 0 or 1 among them. Lengths and lead are judged first: a block would hold a lead only by its remainder
unfoldable pub opening_allowed : (o : Opening) → Bool
opening_allowed o = is (length o.day) 8 and is (length o.area) 16 and is (length o.receiver) 16 and lead_allowed o.lead and day_sound (day_block_of o)

-- "20 length, 21 a parameter no sound day block holds"; "another byte in open is 21"
unfoldable pub open_number : (book : Bytes) (o : Opening) → ℕ
open_number book o = cond (neg (whole_blocks 2 1001 book)) 20 (cond (neg (opening_allowed o)) 21 0)

-- "Open (21) … pass that number on as one more field, 0 elsewhere; for 21 the area … is judged first", whatever else is wrong
unfoldable pub open_answer : (book : Bytes) (o : Opening) → OpenAnswer
open_answer book o = record { number = open_number book o; character = cond (is (open_number book o) 21) (eic_number_of_two o.area o.receiver) 0 }

-- "success writes the day block … and zeroes all slots"
unfoldable pub opened : (book : Bytes) (o : Opening) → Bytes
opened book o = cond (is (open_number book o) 0) (day_block_of o ++ replicate (length book - 512) 0) book

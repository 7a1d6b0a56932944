-- The code asks the definition's questions, in its order.
use Rattle.laws.specs.Kit.{less_true, less_false}
use Rattle.paper.specs.Listing.{text}
use Rattle.desk_faults.specs.Faults.{fault}
use Rattle.desk_text.specs.Put.Laws.{then}
use Rattle.desk_faults.proofs.put_fault.Goals as goal

pub returns-then-size-character : goal.returns-then-size-character
unfolding fault text
returns-then-size-character c =
    rw (← c.id_text-size.ensures, less_true _ _ c.if-size-character.true) (then c.put_place-a.ensures c.put.ensures)

pub returns-then-character-lt16 : goal.returns-then-character-lt16
unfolding fault text
returns-then-character-lt16 c =
    rw (← c.id_text-size.ensures, less_false _ _ c.if-size-character.false, less_true _ _ c.if-character-lt16.true) (then c.put_place-a-then-character-lt16.ensures c.put-then-character-lt16.ensures)

pub returns-then-size-gt16 : goal.returns-then-size-gt16
unfolding fault text
returns-then-size-gt16 c =
    rw (← c.id_text-size.ensures, less_false _ _ c.if-size-character.false, less_false _ _ c.if-character-lt16.false, less_true _ _ c.if-size-gt16.true) c.put_field.ensures

pub returns : goal.returns
unfolding fault text
returns c =
    rw (← c.id_text-size.ensures, less_false _ _ c.if-size-character.false, less_false _ _ c.if-character-lt16.false, less_false _ _ c.if-size-gt16.false) (then c.put_field-a.ensures c.put-2.ensures)

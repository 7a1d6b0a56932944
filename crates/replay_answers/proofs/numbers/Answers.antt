-- The code goes by the definition's cases.
use Rattle.std.proofs.Common.{inl, inr, rules}
use Rattle.laws.specs.Kit.{refl, ◌and◌, ◌or◌, is, less}
use Rattle.stream.specs.Buffer.{buffer_numbers}
use Rattle.replay_answers.specs.Answers.{may_change, reads, numbers_told, book_after, day_numbers, day_after, reading_numbers, leaf_numbers, rule_named}
use Rattle.replay_answers.proofs.numbers.Goals as goal

pub returns-in-Book : goal.returns-in-Book
unfolding numbers_told book_after may_change less
returns-in-Book c = rw c.in-Book.is (c.length_told.ensures, refl)

pub returns-in-Open : goal.returns-in-Open
unfolding numbers_told book_after may_change day_numbers day_after ◌and◌ ◌or◌ is less
returns-in-Open c = rw c.in-Open.is c.«open».ensures

pub returns-in-OpenBy : goal.returns-in-OpenBy
unfolding numbers_told book_after may_change day_numbers day_after rule_named ◌and◌ ◌or◌ is less
returns-in-OpenBy c = rw c.in-OpenBy.is (rw c.byte_or_zero.ensures at c.open-in-OpenBy.ensures)

pub returns-in-Clock : goal.returns-in-Clock
unfolding numbers_told book_after may_change day_numbers day_after ◌and◌ ◌or◌ is less
returns-in-Clock c = rw c.in-Clock.is (rw c.number_2.ensures at c.clock.ensures)

pub returns-in-Submit : goal.returns-in-Submit
unfolding numbers_told book_after may_change day_numbers day_after ◌and◌ ◌or◌ is less
returns-in-Submit c = rw c.in-Submit.is (search rules)

pub returns-in-Convert : goal.returns-in-Convert
unfolding numbers_told book_after may_change day_numbers day_after ◌and◌ ◌or◌ is less
returns-in-Convert c = rw c.in-Convert.is (search rules)

pub returns-in-Right : goal.returns-in-Right
unfolding numbers_told book_after may_change day_numbers day_after ◌and◌ ◌or◌ is less
returns-in-Right c = rw c.in-Right.is c.right.ensures

pub returns-in-Judge : goal.returns-in-Judge
unfolding numbers_told book_after may_change reads ◌and◌ ◌or◌ is less
returns-in-Judge c = rw c.in-Judge.is (c.judge.ensures, refl)

pub returns-in-Mark : goal.returns-in-Mark
unfolding numbers_told book_after may_change reads reading_numbers ◌and◌ ◌or◌ is less
returns-in-Mark c = rw c.in-Mark.is (c.mark.ensures, refl)

pub returns-in-Final : goal.returns-in-Final
unfolding numbers_told book_after may_change reads reading_numbers ◌and◌ ◌or◌ is less
returns-in-Final c = rw c.in-Final.is (c.final_value.ensures, refl)

pub returns-in-Settled : goal.returns-in-Settled
unfolding numbers_told book_after may_change reads reading_numbers ◌and◌ ◌or◌ is less
returns-in-Settled c = rw c.in-Settled.is (c.settled.ensures, refl)

pub returns-in-Plain : goal.returns-in-Plain
unfolding numbers_told book_after may_change reads reading_numbers ◌and◌ ◌or◌ is less
returns-in-Plain c = rw c.in-Plain.is (c.plain_run.ensures, refl)

pub returns-in-Walk : goal.returns-in-Walk
unfolding numbers_told book_after may_change reads reading_numbers ◌and◌ ◌or◌ is less
returns-in-Walk c = rw c.in-Walk.is (c.walk_told.ensures, refl)

pub returns-in-Eic : goal.returns-in-Eic
unfolding numbers_told book_after may_change reads ◌and◌ ◌or◌ is less
returns-in-Eic c = rw c.in-Eic.is (c.eic.ensures, refl)

pub returns-in-Id : goal.returns-in-Id
unfolding numbers_told book_after may_change reads ◌and◌ ◌or◌ is less
returns-in-Id c = rw c.in-Id.is (c.id.ensures, refl)

pub returns-in-Read : goal.returns-in-Read
unfolding numbers_told book_after may_change reads ◌and◌ ◌or◌ is less
returns-in-Read c = rw c.in-Read.is (c.read.ensures, refl)

pub returns-in-Check : goal.returns-in-Check
unfolding numbers_told book_after may_change reads ◌and◌ ◌or◌ is less
returns-in-Check c = rw c.in-Check.is (c.check.ensures, refl)

pub returns-in-Length : goal.returns-in-Length
unfolding numbers_told book_after may_change buffer_numbers ◌and◌ ◌or◌ is less
returns-in-Length c = let r = c.sum_told.ensures in
    elim c.in-Length.is [ inl e ↦ rw e (r, refl) | inr h ↦ elim h [ inl e ↦ rw e (r, refl) | inr e ↦ rw e (r, refl) ] ]

pub returns-in-Sound : goal.returns-in-Sound
unfolding numbers_told book_after may_change reads reading_numbers ◌and◌ ◌or◌ is less
returns-in-Sound c = let r = c.sound.ensures in
    elim c.in-Sound.is [
      | inl e ↦ rw e (r, refl)
      | inr h ↦ elim h [ inl e ↦ rw e (r, refl) | inr i ↦ elim i [ inl e ↦ rw e (r, refl) | inr e ↦ rw e (r, refl) ] ]
    ]

pub returns-in-Code : goal.returns-in-Code
unfolding numbers_told book_after may_change reads leaf_numbers ◌and◌ ◌or◌ is less
returns-in-Code c = let r = c.code.ensures in
    elim c.in-Code.is [ inl e ↦ rw e (r, refl) | inr h ↦ elim h [ inl e ↦ rw e (r, refl) | inr e ↦ rw e (r, refl) ] ]

-- The code goes by the definition's cases.
use Rattle.desk_answers.specs.Answers.{line_of, Answered}
use Rattle.desk_answers.proofs.questions.answer.Goals as goal

pub returns-in-Mark : goal.returns-in-Mark
unfolding Answered line_of
returns-in-Mark c = rw c.in-Mark.is c.mark_told.ensures

pub returns-in-Block : goal.returns-in-Block
unfolding Answered line_of
returns-in-Block c = rw c.in-Block.is c.block_told.ensures

pub returns-in-Final : goal.returns-in-Final
unfolding Answered line_of
returns-in-Final c = rw c.in-Final.is c.final_told.ensures

pub returns-in-Settle : goal.returns-in-Settle
unfolding Answered line_of
returns-in-Settle c = rw c.in-Settle.is c.settlement.ensures

pub returns-in-Plain : goal.returns-in-Plain
unfolding Answered line_of
returns-in-Plain c = rw c.in-Plain.is c.plain_told.ensures

pub returns-in-List : goal.returns-in-List
unfolding Answered line_of
returns-in-List c = rw c.in-List.is c.listing.ensures

pub returns-in-Eic : goal.returns-in-Eic
unfolding Answered line_of
returns-in-Eic c = rw c.in-Eic.is c.eic_told.ensures

pub returns-in-Kw : goal.returns-in-Kw
unfolding Answered line_of
returns-in-Kw c = rw c.in-Kw.is c.kw_told.ensures

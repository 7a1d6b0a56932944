-- The code goes by the definition's cases.
use Rattle.desk_answers.specs.Answers.{change_number, change_line, changed}
use Rattle.desk_answers.proofs.changes.change.Goals as goal

pub returns-in-Open : goal.returns-in-Open
unfolding change_number change_line changed
returns-in-Open c = rw c.in-Open.is c.open_told.ensures

pub returns-in-Clock : goal.returns-in-Clock
unfolding change_number change_line changed
returns-in-Clock c = rw c.in-Clock.is c.clock_told.ensures

pub returns-in-Submit : goal.returns-in-Submit
unfolding change_number change_line changed
returns-in-Submit c = rw c.in-Submit.is c.submit_told.ensures

pub returns-in-Convert : goal.returns-in-Convert
unfolding change_number change_line changed
returns-in-Convert c = rw c.in-Convert.is c.convert_told.ensures

pub returns-in-Enter : goal.returns-in-Enter
unfolding change_number change_line changed
returns-in-Enter c = rw c.in-Enter.is c.enter_told.ensures

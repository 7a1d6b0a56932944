-- The code goes by the test.
use Rattle.desk_lines.proofs.put_either.Goals as goal

pub returns-then-test : goal.returns-then-test
returns-then-test c = rw c.if-test.true c.put.ensures

pub returns : goal.returns
returns c = rw c.if-test.false c.put-2.ensures

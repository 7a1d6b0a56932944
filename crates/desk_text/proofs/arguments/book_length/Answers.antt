-- The code asks what the definition asks.
use Rattle.laws.specs.Kit.{less_true, less_false}
use Rattle.desk_text.specs.Arguments.{book_length}
use Rattle.std.proofs.Common.{rules}
use Rattle.desk_text.proofs.arguments.book_length.Goals as goal

pub returns-then-blocks-gt1001 : goal.returns-then-blocks-gt1001
unfolding book_length
returns-then-blocks-gt1001 c = (rw (less_true _ _ c.if-blocks-gt1001.true), search rules)

pub returns : goal.returns
unfolding book_length
returns c = (rw (less_false _ _ c.if-blocks-gt1001.false), search rules)

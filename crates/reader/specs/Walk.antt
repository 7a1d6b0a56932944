-- A reader laid over a message: what it reads, what it gives at a number, and how it moves on.
pub mod Laws
use Rattle.std.specs.Prelude.{cond, [], ℕ, suc, ◌+◌, zero}
use Rattle.laws.specs.Tests.{less}
use Rattle.paper.specs.Layout.{Bytes, Block}
use Rattle.paper.specs.Book.{numbered}
use Rattle.paper.specs.Message.{series_of, rule2}

-- the message, or nothing where it breaks rule 2
unfoldable pub readable : Bytes → Bytes
readable message = cond (rule2 message) [] message

-- series number k of what is read; empty past the last one
unfoldable pub series_at : Bytes → ℕ → Block
series_at message k = numbered (series_of message) k

-- no message has more than 200 series: past them a reader stays where it is
unfoldable pub following : ℕ → ℕ
following k = cond (less k 201) (k + 1) k

-- the number that a new reader stands at after so many steps
unfoldable pub after : ℕ → ℕ
after zero = 1
after (suc steps) = following (after steps)

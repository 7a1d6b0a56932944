-- The seal for C: a buffer that is not one block has no place for a check, and is refused.
use Rattle.std.specs.Prelude.{Bool, cond, length}
use Rattle.laws.specs.Tests.{is}
use Rattle.paper.specs.Layout.{Bytes}
use Rattle.paper.specs.Check.{sealed}

unfoldable pub is_one_block : (buffer : Bytes) → Bool
is_one_block buffer = is (length buffer) 512

-- the block with its check put right; a buffer that is none stays as it was
unfoldable pub sealed_block : (buffer : Bytes) → Bytes
sealed_block buffer = cond (is_one_block buffer) (sealed buffer) buffer

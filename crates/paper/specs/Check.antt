-- "Blocks": the check of a block of 512 bytes, which its bytes 508–511 hold.
use Rattle.std.specs.Prelude.{Bool, List, [], ◌∷◌, ℕ, ◌+◌, ◌-◌, ◌*◌, ◌%◌, take}
use Rattle.laws.specs.Tests.{is}
use Rattle.laws.specs.Bytes.{written, little, number}

-- "take 32 times the check, less the check, plus the byte, keeping the remainder by 4,294,967,296"
unfoldable pub check_step : (check : ℕ) (byte : ℕ) → ℕ
check_step check byte = (32 * check - check + byte) % 4294967296

-- the check after some bytes
unfoldable pub check_from : (check : ℕ) (bytes : List ℕ) → ℕ
check_from check [] = check
check_from check (byte ∷ bytes) = check_from (check_step check byte) bytes

-- "start at 0; for each of bytes 0–507"
unfoldable pub check_of : (block : List ℕ) → ℕ
check_of block = check_from 0 (take 508 block)

-- bytes 508–511 hold it
unfoldable pub check_right : (block : List ℕ) → Bool
check_right block = is (number 4 508 block) (check_of block)

-- a block with its check put right
unfoldable pub sealed : (block : List ℕ) → List ℕ
sealed block = written 508 (little 4 (check_of block)) block

-- Numbers that differ where two fields do, but for a chance: fields are compared byte by byte only where these agree.
use Rattle.std.specs.Prelude.{cond, ℕ, ◌+◌, ◌*◌, ◌%◌, length}
use Rattle.laws.specs.Tests.{less}
use Rattle.laws.specs.Bytes.{part, number}
use Rattle.paper.specs.Layout.{Bytes}

unfoldable pub mixed : ℕ → ℕ → ℕ
mixed t w = (1000003 * t + w) % 4294967296

-- of a field of sixteen bytes
unfoldable pub tag_of : Bytes → ℕ
tag_of s = cond (less (length s) 16) 0 (mixed (mixed (mixed (number 4 0 s) (number 4 4 s)) (number 4 8 s)) (number 4 12 s))

-- of a pair of parties, or of a single field, behind which there is nothing
unfoldable pub pair_tag_of : Bytes → ℕ
pair_tag_of p = mixed (tag_of (part 0 16 p)) (tag_of (part 16 16 p))

-- of a pair and an agreement, or of fewer fields
unfoldable pub key_tag_of : Bytes → ℕ
key_tag_of k = mixed (pair_tag_of (part 0 32 k)) (tag_of (part 32 16 k))

-- Rule 2 as the code finds it: by the length first, then the checks, then the blocks.
use Rattle.std.specs.Prelude.{◌≡◌, ◌&&◌, ◌/◌}
use Rattle.laws.specs.Kit.{Bool, true, false, length, ◌and◌}
use Rattle.laws.specs.Lists.{every}
use Rattle.laws.specs.Cut.{cut}
use Rattle.laws.specs.Cut.Laws.{cut_length}
use Rattle.paper.specs.Layout.{Bytes}
use Rattle.paper.specs.Check.{check_right}
use Rattle.paper.specs.Ranges.{whole_blocks}
use Rattle.paper.specs.Message.{head_of, series_of, head_right, series_right, message_right}

pub length_wrong : (m : Bytes) → whole_blocks 2 201 m ≡ false → false ≡ message_right m
unfolding message_right ◌and◌
length_wrong m e = rw e

pub check_wrong : (m : Bytes) → whole_blocks 2 201 m ≡ true → every check_right (cut 512 m) ≡ false → false ≡ message_right m
unfolding message_right ◌and◌
check_wrong m w k = rw (w, k)

-- h and s are the parts that the code takes of the message, a and b what it finds of them
pub right_by_lem : (m h s : Bytes) {a b : Bool} → whole_blocks 2 201 m ≡ true → every check_right (cut 512 m) ≡ true → h ≡ head_of m → cut 512 s ≡ series_of m
    → a ≡ head_right h (length s / 512) → b ≡ every (series_right h) (cut 512 s) → (a && b) ≡ message_right m
unfolding message_right ◌and◌
right_by_lem m h s w k p q x y = rw (w, k, x, y, ← cut_length 512 s, q, p)

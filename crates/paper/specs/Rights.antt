-- C-14, entering a right: a rights block "takes the lowest free slot and is entered once, never altered".
use Rattle.std.specs.Prelude.{Bool, cond, ℕ, ◌+◌, ◌*◌, length}
use Rattle.laws.specs.Tests.{◌and◌, ◌or◌, neg, is}
use Rattle.laws.specs.Lists.{has}
use Rattle.laws.specs.Bytes.{written}
use Rattle.paper.specs.Check.{check_right}
use Rattle.paper.specs.Layout.{Bytes, Block}
use Rattle.paper.specs.Book.{day_block, used, free_slots, is_right}
use Rattle.paper.specs.Sound.{right_sound, same_right, sound}

-- one block, its check right, that a sound book with this day block may hold as a right
unfoldable pub right_allowed : (day : Block) (block : Bytes) → Bool
right_allowed day block = is (length block) 512 and check_right block and is_right block and right_sound day block

-- "entering: 1, 40 malformed or equal to a stored right in all but limits, 17"
unfoldable pub enter_number : (book : Bytes) (block : Bytes) → ℕ
enter_number book block =
    cond (neg (sound book)) 1
    (cond (neg (right_allowed (day_block book) block) or has (same_right block) (used book)) 40
    (cond (is (free_slots book) 0) 17 0))

-- the book after it: the block as it is given stands in the lowest free slot, behind the day block and the used slots
unfoldable pub entered : (book : Bytes) (block : Bytes) → Bytes
entered book block = cond (is (enter_number book block) 0) (written (512 + 512 * length (used book)) block book) book

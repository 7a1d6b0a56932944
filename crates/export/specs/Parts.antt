-- What C is handed of a block: where it begins and how long it is, since a part of a buffer can't be a result there.
use Rattle.std.specs.Prelude.{cond, ℕ, ◌*◌, ◌/◌, length}
use Rattle.laws.specs.Tests.{◌or◌, is, upto}
use Rattle.laws.specs.Lists.{place}
use Rattle.laws.specs.Bytes.{part}
use Rattle.paper.specs.Layout.{Bytes}
use Rattle.paper.specs.Book.{used}
use Rattle.paper.specs.Sound.{sound}
use Rattle.paper.specs.Message.{rule2}
use Rattle.paper.specs.Readings.{is_stored_as}
use Rattle.export.specs.declared.parts.Part.{Part}

-- the bytes that a part of a buffer has
unfoldable pub bytes_of : Part → Bytes → Bytes
bytes_of p b = part p.offset p.length b

-- of no block
abbrev pub nothing : Part
nothing = record { offset = 0; length = 0 }

-- of the block with number k, the first of a buffer having number 0: that one is the day's or the sender's, and never asked for
unfoldable pub part_numbered : Bytes → ℕ → Part
part_numbered b k = cond (is k 0 or upto (length b / 512) k) nothing (record { offset = 512 * k; length = 512 })

-- nothing on 1 and on 23
unfoldable pub accepted_part : Bytes → Bytes → Bytes → Part
accepted_part book e i = cond (sound book) (part_numbered book (place (is_stored_as (used book) e i) (used book))) nothing

-- nothing past the last series, or where rule 2 is broken
unfoldable pub series_part : Bytes → ℕ → Part
series_part message k = cond (rule2 message) nothing (part_numbered message k)

-- Lines past a book's end.
use Rattle.std.specs.Prelude.{◌≡◌, [], ℕ, ◌*◌, ◌/◌, ◌<◌, length}
use Rattle.std.proofs.Common.{arith}
use Rattle.laws.specs.Tests.{is}
use Rattle.laws.specs.Slices.{part_past}
use Rattle.paper.specs.Layout.{Bytes}
use Rattle.stream.specs.Buffer.{row_of, book_row}

pub row_past : (book : Bytes) (i : ℕ) → length book / 512 < i → book_row book i ≡ []
unfolding book_row row_of is
row_past book i h = rw (part_past (512 * i) 512 book (omega arith))

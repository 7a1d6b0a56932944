-- Settled positions as text (C-20): a line for each party, in the order in which they appear in the book, and a last one with the sums over all of them.
use Rattle.std.specs.Prelude.{◌≡◌, List, [], ◌∷◌, ◌++◌, ℕ}
use Rattle.laws.specs.Lists.{total}
use Rattle.paper.specs.Layout.{Bytes, Block, in_party, out_party}
use Rattle.paper.specs.Book.{day_block, used}
use Rattle.paper.specs.Settled.{parties, bought_by, sold_by, settled}
use Rattle.paper.specs.Listing.{text}
use Rattle.desk_text.specs.Put.{Put}
use Rattle.desk_text.specs.Numbers.{difference_text}
use Rattle.desk_text.specs.Pieces.{worded}
use Rattle.desk_lines.specs.Lines.{telling}
use Rattle.settling.specs.Values.{side_sum}
use Rattle.settlement_text.specs.declared.Sheet.{Sheet}

-- what a party, or all of them, buys and sells, and the first less the second, in kW
unfoldable pub sums_line : (name : Bytes) (bought sold : ℕ) → Bytes
sums_line name bought sold =
    name ++ worded (text " bought ") bought ++ worded (text " sold ") sold ++ text " settled " ++ difference_text bought sold ++ text "\n"

-- the lines of some parties, where bought and sold tell the sums of each
unfoldable pub sums_lines : (bought sold : Bytes → ℕ) (names : List Bytes) → Bytes
sums_lines bought sold [] = []
sums_lines bought sold (party ∷ names) = sums_line party (bought party) (sold party) ++ sums_lines bought sold names

-- and the last one
unfoldable pub sums_text : (bought sold : Bytes → ℕ) (names : List Bytes) → Bytes
sums_text bought sold names = sums_lines bought sold names ++ sums_line (text "all") (total bought names) (total sold names)

-- the whole text; a refusal is one line
unfoldable pub settlement_text : (book : Bytes) (position : ℕ) → Bytes
settlement_text book position =
    telling (settled book [] position).number
    (worded (text ": position ") position ++ text ", in kW\n"
    ++ sums_text (bought_by (day_block book) (used book) position) (sold_by (day_block book) (used book) position) (parties (used book)))

-- ---- a sheet on its way: the place behind the lines of the parties so far, and their sums

-- a party's two sums, from the row of values
abbrev pub bought_from : (us : List Block) (values : List ℕ) (m : ℕ) (party : Bytes) → ℕ
bought_from us values m party = side_sum in_party party us values m

abbrev pub sold_from : (us : List Block) (values : List ℕ) (m : ℕ) (party : Bytes) → ℕ
sold_from us values m party = side_sum out_party party us values m

-- the buffer was x when the lines began at a place; it is y
pub record Filled (us : List Block) (values : List ℕ) (m : ℕ) (names : List Bytes) (begun : ℕ) (sheet : Sheet) (x y : Bytes) : Type 0 where
  pub lines : Put begun (sums_lines (bought_from us values m) (sold_from us values m) names) sheet.at x y
  pub bought : sheet.bought ≡ total (bought_from us values m) names
  pub sold : sheet.sold ≡ total (sold_from us values m) names

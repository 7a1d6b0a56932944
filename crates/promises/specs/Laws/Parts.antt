-- Short names for the parts of an acceptance of a message into a book, and of a conversion, so that a statement about them stays one line.
use Rattle.laws.specs.Base.{List, ℕ}
use Rattle.laws.specs.Lists.{keep}
use Rattle.paper.specs.Layout.{Bytes, Block, n_of, area, sender}
use Rattle.paper.specs.Book.{day_block, used, own_series}
use Rattle.paper.specs.Message.{head_of, series_of}
use Rattle.paper.specs.Rules.{is_new}
use Rattle.paper.specs.Acceptance.{slot_for, renewed, placed, remarked, used_after}
use Rattle.paper.specs.Conversion.{converted_block, used_converted}

-- the slot that the sender has or gets
abbrev pub sender_slot : Bytes → Bytes → ℕ
sender_slot book message = slot_for (used book) (sender (head_of message))

-- its stored series
abbrev pub own_of : Bytes → Bytes → List Block
own_of book message = own_series (used book) (sender (head_of message))

-- the message's series that are new
abbrev pub new_of : Bytes → Bytes → List Block
new_of book message = keep (is_new (own_series (used book) (sender (head_of message)))) (series_of message)

-- a stored block, renewed
abbrev pub renewed_of : Bytes → Bytes → Block → Block
renewed_of book message = renewed (area (day_block book)) (slot_for (used book) (sender (head_of message))) (head_of message) (series_of message)

-- the used slots, marks apart
abbrev pub placed_of : Bytes → Bytes → List Block
placed_of book message = placed (area (day_block book)) (used book) (head_of message) (series_of message)

-- a block with its mark put right
abbrev pub remarked_of : Bytes → Bytes → Block → Block
remarked_of book message = remarked (n_of (day_block book)) (slot_for (used book) (sender (head_of message))) (placed (area (day_block book)) (used book) (head_of message) (series_of message))

-- the used slots after it
abbrev pub after_of : Bytes → Bytes → List Block
after_of book message = used_after (n_of (day_block book)) (area (day_block book)) (used book) (head_of message) (series_of message)

-- all of them, to be opened by name: d is the day block, ours its area, us the used slots, h and series the message's first block and series
pub record Acceptance : Type 0 where
  pub d : Block
  pub ours : Bytes
  pub us : List Block
  pub h : Block
  pub series : List Block
  pub slot : ℕ
  pub own : List Block
  pub again : Block → Block
  pub now : List Block
  pub put : Block → Block
  pub after : List Block

abbrev pub parts : Bytes → Bytes → Acceptance
parts book message = record {
  d = day_block book;
  ours = area (day_block book);
  us = used book;
  h = head_of message;
  series = series_of message;
  slot = sender_slot book message;
  own = own_of book message;
  again = renewed_of book message;
  now = placed_of book message;
  put = remarked_of book message;
  after = after_of book message;
}

-- ---- a conversion: a used block, and the used slots after it

abbrev pub again_of : Bytes → Block → Block
again_of book = converted_block (n_of (day_block book)) (area (day_block book)) (used book)

abbrev pub used_again_of : Bytes → List Block
used_again_of book = used_converted (n_of (day_block book)) (area (day_block book)) (used book)

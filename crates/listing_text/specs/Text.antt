-- A text that grows in a buffer, the parts in which the code puts a line, and what becomes of a buffer that may be too short.
use Rattle.std.specs.Prelude.{◌≡◌, cond, List, [], ◌∷◌, ◌++◌, ℕ, ◌+◌, length}
use Rattle.laws.specs.Tests.{less}
use Rattle.laws.specs.Bytes.{written}
use Rattle.paper.specs.Layout.{Bytes, Block, id_of, sender, senders_slot, in_party, out_party, differing, first, partner}
use Rattle.paper.specs.Ids.{id_text}
use Rattle.paper.specs.Book.{numbered}
use Rattle.paper.specs.QuantityText.{decimal}
use Rattle.paper.specs.Listing.{header, series_lines}

-- the text was put into the buffer before from the place at on; it ends before the place behind, and the buffer is now after
pub record Appended (at : ℕ) (text before : Bytes) (behind : ℕ) (after : Bytes) : Type 0 where
  pub place : behind ≡ at + length text
  pub bytes : after ≡ written at text before

-- slot, sender, id
unfoldable pub names : List Block → ℕ → Block → Bytes
names us slot x = (decimal slot ++ 32 ∷ []) ++ (sender (numbered us (senders_slot x)) ++ 32 ∷ []) ++ (id_text (id_of x) ++ 32 ∷ [])

unfoldable pub parties : Block → Bytes
parties x = (in_party x ++ 32 ∷ []) ++ (out_party x ++ 32 ∷ [])

-- count, first, partner
unfoldable pub marks : Block → Bytes
marks x = (decimal (differing x) ++ 32 ∷ []) ++ (decimal (first x) ++ 32 ∷ []) ++ (decimal (partner x) ++ 10 ∷ [])

-- the text for a sound book with these used slots
unfoldable pub listing_of : List Block → Bytes
listing_of us = header ++ series_lines us 1 us

-- what is answered for a text and a buffer of room bytes: the text's length, 0 if the buffer is short
unfoldable pub text_length : Bytes → ℕ → ℕ
text_length text room = cond (less room (length text)) 0 (length text)

-- the buffer after it: bytes after the text stay, and all of them if the buffer is short
unfoldable pub text_into : Bytes → Bytes → Bytes
text_into text buffer = cond (less (length buffer) (length text)) buffer (written 0 text buffer)

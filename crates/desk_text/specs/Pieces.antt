-- The pieces that lines are made of.
use Rattle.std.specs.Prelude.{cond, [], ◌++◌, ℕ}
use Rattle.laws.specs.Tests.{is}
use Rattle.paper.specs.Layout.{Bytes}
use Rattle.paper.specs.Listing.{text}
use Rattle.paper.specs.QuantityText.{last_digits}
use Rattle.desk_text.specs.Numbers.{number_text}

-- a word and a number
unfoldable pub worded : (word : Bytes) (x : ℕ) → Bytes
worded word x = word ++ number_text x

-- nothing where the number is 0
unfoldable pub named : (word : Bytes) (x : ℕ) → Bytes
named word x = cond (is x 0) [] (worded word x)

-- A53 behind a space, A04 with its zero; nothing where a number has no code
unfoldable pub code_text : (code : ℕ) → Bytes
code_text code = cond (is code 0) [] (text " A" ++ last_digits 2 code)

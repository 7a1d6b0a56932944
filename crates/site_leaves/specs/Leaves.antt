-- What the check on site asks of the definitions where no book is needed.
use Rattle.std.specs.Prelude.{◌∷◌}
use Rattle.std.specs.Option.{unwrap_or}
use Rattle.laws.specs.Base.{Bool, [], ℕ, replicate}
use Rattle.laws.specs.Tests.{◌and◌, is}
use Rattle.laws.specs.Bytes.{written}
use Rattle.paper.specs.Layout.{Bytes}
use Rattle.paper.specs.QuantityText.{quantity_read}
use Rattle.desk_text.specs.Numbers.{number_read}
use Rattle.desk_text.specs.Arguments.{byte_value}

-- the number that a row's argument says, 0 where it says none
abbrev pub number_in : Bytes → ℕ
number_in s = unwrap_or (number_read s) 0

-- a block that is zero but for one byte
unfoldable pub block_with : (at byte : Bytes) → Bytes
block_with at byte = written (number_in at) (byte_value (number_in byte) ∷ []) (replicate 512 0)

-- a quantity text is read without a refusal, as so many kilowatts
unfoldable pub reads_as : (said : Bytes) (kilowatts : ℕ) → Bool
reads_as said kilowatts = is 0 (quantity_read said).number and is kilowatts (quantity_read said).kilowatts

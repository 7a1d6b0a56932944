-- What is read of a text, as the paper's answer: a refusal by its number, which says no quantity.
use Rattle.std.specs.Prelude.{ℕ, Option, None, Some, Result, Ok, Err}
use Rattle.paper.specs.declared.QuantityRead.{QuantityRead}
use Rattle.paper.specs.QuantityText.{read_refused, read_as}
use Rattle.quantity.specs.declared.NoQuantity.{NoQuantity}
use Rattle.quantity.specs.declared.NoQuantity.TheVariants.{NotText, Negative}

-- without a minus
abbrev pub read_of : Option ℕ → QuantityRead
read_of None = read_refused 30
read_of (Some kilowatts) = read_as kilowatts

abbrev pub told : Result ℕ NoQuantity → QuantityRead
told (Ok kilowatts) = read_as kilowatts
told (Err NotText) = read_refused 30
told (Err Negative) = read_refused 31

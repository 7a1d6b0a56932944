-- The check on the characters' values.
use Rattle.std.specs.Prelude.{Bool, List, [], ◌∷◌, ℕ, ◌+◌, ◌-◌, ◌*◌}
use Rattle.laws.specs.Tests.{neg, is}

-- 255 marks a byte that is no character
unfoldable pub known : (value : ℕ) → Bool
known value = neg (is value 255)

-- the sum at a weight, at one less and on
unfoldable pub weighted_values : (weight : ℕ) (values : List ℕ) → ℕ
weighted_values weight [] = 0
weighted_values weight (value ∷ values) = weight * value + weighted_values (weight - 1) values

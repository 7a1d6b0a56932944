-- A table of n numbers that holds what f gives at each place.
pub mod Laws
use Rattle.std.specs.Prelude.{◌≡◌, ◌∷◌, ◌<◌}
use Rattle.laws.specs.Base.{Bool, true, List, [], ℕ, suc, get_or}
use Rattle.laws.specs.Tests.{◌and◌, is}

unfoldable pub Table : (ℕ → ℕ) → ℕ → List ℕ → Type 0
Table f n t = (k : ℕ) → k < n → get_or t k 0 ≡ f k

-- the same as a test: each entry is what f gives at its place, counted from k
unfoldable pub tabulates : (ℕ → ℕ) → ℕ → List ℕ → Bool
tabulates f k [] = true
tabulates f k (x ∷ xs) = is x (f k) and tabulates f (suc k) xs

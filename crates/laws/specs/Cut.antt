-- A list cut into blocks of one width, and blocks joined.
pub mod Laws
use Rattle.std.specs.Prelude.{◌∷◌, ◌++◌, ◌*◌, ◌/◌}
use Rattle.laws.specs.Base.{List, [], ℕ, zero, suc, length, take, drop}

module _ {A : Type 0} where
  -- the first k blocks of width w
  unfoldable pub chunks : ℕ → ℕ → List A → List (List A)
  chunks w zero b = []
  chunks w (suc k) b = take w b ∷ chunks w k (drop w b)

  -- all whole blocks of width w
  unfoldable pub cut : ℕ → List A → List (List A)
  cut w b = chunks w (length b / w) b

  unfoldable pub join : List (List A) → List A
  join [] = []
  join (x ∷ xs) = x ++ join xs

  -- block i of width w, counted from 0
  unfoldable pub block : ℕ → List A → ℕ → List A
  block w b i = take w (drop (w * i) b)

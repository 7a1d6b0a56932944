-- Parts of a list, lists written over, and numbers as bytes, the lowest first.
pub mod Laws
use Rattle.std.specs.Prelude.{◌∷◌, ◌+◌, ◌*◌, ◌/◌, ◌%◌}
use Rattle.laws.specs.Base.{List, [], ℕ, zero, suc, take, drop, sets}

-- n elements from offset o
unfoldable pub part : ℕ → ℕ → List ℕ → List ℕ
part o n b = take n (drop o b)

-- b with v written over it from offset o
unfoldable pub written : ℕ → List ℕ → List ℕ → List ℕ
written o v b = sets b o v

-- the number that bytes hold
unfoldable pub value : List ℕ → ℕ
value [] = 0
value (x ∷ xs) = x + 256 * value xs

-- the lowest w bytes of a number
unfoldable pub little : ℕ → ℕ → List ℕ
little zero x = []
little (suc w) x = x % 256 ∷ little w (x / 256)

-- the number in the w bytes from offset o
unfoldable pub number : ℕ → ℕ → List ℕ → ℕ
number w o b = value (part o w b)

-- A name in a record's body: a byte with its length, at most 64, and that many bytes.
use Rattle.std.specs.Prelude.{◌≡◌, cond, List, ℕ, ◌+◌, length, Option, MatchOption}
use Rattle.std.specs.Borrow.{Bor}
use Rattle.laws.specs.Tests.{◌or◌, less, upto}
use Rattle.laws.specs.Bytes.{part, number}

-- all from a place on
unfoldable pub rest_from : List ℕ → ℕ → List ℕ
rest_from body at = part at (length body) body

-- the name that starts at a place, without its length
unfoldable pub name_at : List ℕ → ℕ → List ℕ
name_at body at = part 1 (number 1 0 (rest_from body at)) (rest_from body at)

-- the place behind it; the largest number where there is no name
unfoldable pub name_end : List ℕ → ℕ → ℕ
name_end body at =
    cond (upto (length body) at or less 64 (number 1 at body) or upto (length body) (at + number 1 at body)) 18446744073709551615 (at + 1 + number 1 at body)

-- the name that starts at a place and the place behind it, or that there is none
abbrev pub NameFrom : (body : List ℕ) (at : ℕ) → Option (Bor (List ℕ) × ℕ) → Type 0
NameFrom body at r = MatchOption r (name_end body at ≡ 18446744073709551615) (λ p. (p.0.now ≡ name_at body at) × (p.1 ≡ name_end body at))

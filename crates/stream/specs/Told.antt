-- The numbers that an answer tells.
use Rattle.std.specs.Prelude.{List, [], ℕ, take, Option, None, Some}
use Rattle.stream.specs.declared.told.Told.{Told}

abbrev pub numbers_of : Told → List ℕ
numbers_of t = take t.count t.numbers

-- those of a record: a malformed one is told nothing
abbrev pub told_of : Option Told → List ℕ
told_of None = []
told_of (Some t) = numbers_of t

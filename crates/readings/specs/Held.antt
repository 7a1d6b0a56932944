-- The final value of a pair by a rule, at position k + 1, once that is known to be closed.
use Rattle.std.specs.Prelude.{cond, List, ◌++◌, ℕ}
use Rattle.laws.specs.Tests.{◌or◌, neg}
use Rattle.paper.specs.declared.FinalAnswer.{FinalAnswer}
use Rattle.paper.specs.declared.Rule.{Rule}
use Rattle.paper.specs.Layout.{Bytes, Block}
use Rattle.paper.specs.Finals.{final_of, held, is_held, held_at, final_refused}

unfoldable pub final_held : Rule → List Block → Bytes → Bytes → ℕ → FinalAnswer
final_held rule us seller buyer k =
    cond (neg (is_held (held us seller (buyer ++ seller)) or is_held (held us buyer (buyer ++ seller)))) (final_refused 26)
    (record { number = 0; kilowatts = final_of rule (held_at (held us seller (buyer ++ seller)) k) (held_at (held us buyer (buyer ++ seller)) k) })

-- Where there is no x nothing stands behind it, as nothing stands behind the end.
use Rattle.std.specs.Prelude.{◌≡◌, ◌≤◌, min, ◌+◌}
use Rattle.laws.specs.Kit.{arith, ℕ, length, drop, less, split, less_yes, less_no}
use Rattle.paper.specs.Layout.{Bytes}
use Rattle.message_words.specs.Words.{before, behind}
use Rattle.message_words.specs.Words.Laws.{behind_inside, behind_none}
use Rattle.message_words.proofs.start_behind.Goals as goal

at_most : (x : ℕ) (s : Bytes) (n m : ℕ) → n ≡ length (before x s) → n ≤ length s → m ≡ min (n + 1) (length s) → drop m s ≡ behind x s
at_most x s n m e h q =
    split (less n (length s))
    (λ t. let l = less_yes _ _ t in let k : m ≡ n + 1 = omega arith in rw k (behind_inside x s n e))
    (λ t. let l = less_no _ _ t in let k : m ≡ n = omega arith in rw k (behind_none x s n e l))

pub returns : goal.returns
unfolding before
returns c = (at_most _ _ _ _ c.length_before.ensures.0 c.length_before.ensures.1 c.min.ensures, omega arith, omega arith)

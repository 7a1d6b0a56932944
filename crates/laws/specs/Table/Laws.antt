-- One test, computed over a whole table, gives its rule at each entry.
use Rattle.std.specs.Prelude.{◌≡◌, ◌∷◌, ◌+◌, ◌<◌}
use Rattle.laws.specs.Base.{true, List, [], ℕ, zero, suc, add-suc, add-zero, suc-add, zero-add, arith, length, get_or}
use Rattle.laws.specs.Tests.{is}
use Rattle.laws.specs.Tests.Laws.{and_left, and_right, is_yes}
use Rattle.laws.specs.Table.{Table, tabulates}

tabulates_at : (f : ℕ → ℕ) (t : List ℕ) (k : ℕ) → tabulates f k t ≡ true → (i : ℕ) → i < length t → get_or t i 0 ≡ f (k + i)
unfolding tabulates
tabulates_at f [] k e i h = absurd (omega arith)
tabulates_at f (x ∷ t) k e zero h = rw add-zero (is_yes _ _ (and_left _ _ e))
tabulates_at f (x ∷ t) k e (suc i) h = rw (add-suc, ← suc-add) (tabulates_at f t (suc k) (and_right _ _ e) i (omega arith))

pub table_tested : (f : ℕ → ℕ) (n : ℕ) (t : List ℕ) → tabulates f 0 t ≡ true → is n (length t) ≡ true → Table f n t
unfolding Table
table_tested f n t e l k h = let b : k < length t = rw (is_yes _ _ l) at h in rw zero-add at (tabulates_at f t 0 e k b)

pub table_at : (f : ℕ → ℕ) (n : ℕ) (t : List ℕ) → Table f n t → (k : ℕ) → k < n → get_or t k 0 ≡ f k
unfolding Table
table_at f n t e = e

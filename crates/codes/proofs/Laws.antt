-- A number above every row's has no code.
use Rattle.std.specs.Prelude.{◌≡◌, ◌∷◌, ◌<◌}
use Rattle.laws.specs.Kit.{refl, sym, true, List, [], ℕ, arith, ◌and◌, less, is_other, less_yes, and_left, and_right}
use Rattle.laws.specs.Lists.{every}
use Rattle.paper.specs.Codes.{Row, table, code_in, reason_code}

none_above : (rows : List Row) (k : ℕ) → every (λ r. less r.number 33) rows ≡ true → 32 < k → code_in rows k ≡ 0
unfolding code_in every
none_above [] k t h = refl
none_above (r ∷ rs) k t h =
    let l : r.number < 33 = less_yes _ _ (and_left _ _ t) in
    rw (is_other r.number k (λ e. omega arith)) (none_above rs k (and_right _ _ t) h)

pub code_none_above : (k : ℕ) → 32 < k → 0 ≡ reason_code k
unfolding reason_code table every less ◌and◌
code_none_above k h = sym (none_above table k refl h)

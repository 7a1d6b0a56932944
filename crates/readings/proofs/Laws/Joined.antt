-- A list against two joined: it is cut where the first of them ends.
use Rattle.std.specs.Prelude.{◌≡◌, ◌++◌, ◌+◌, ◌-◌, ◌<◌}
use Rattle.laws.specs.Kit.{sym, ◌∙◌, Bool, false, List, ℕ, arith, length, take, drop, length-append, take-append_seam, drop-append_seam, ◌and◌}
use Rattle.laws.specs.Lists.{same}
use Rattle.laws.specs.Lists.Same.{same_split, same_length_other}
use Rattle.laws.specs.Slices.{rest_slice}

pub joined_short : (s a b : List ℕ) → length s < length a → false ≡ same s (a ++ b)
joined_short s a b h = sym (same_length_other s (a ++ b) (λ e. let n : length s ≡ length a + length b = e ∙ length-append a b in omega arith))

pub joined_long : (s a b : List ℕ) {t u : Bool} → t ≡ same (take (length a) s) a → u ≡ same (take (length s - length a) (drop (length a) s)) b → (t and u) ≡ same s (a ++ b)
joined_long s a b e f = rw (e, f, rest_slice (length a) s) (sym (same_split (length a) s (a ++ b) ∙ rw (take-append_seam a b, drop-append_seam a b)))

-- Turns of a loop that writes a row of bytes over another: what is left to write, over what is written, gives the whole.
use Rattle.std.specs.Prelude.{◌≡◌, ◌+◌, ◌≤◌}
use Rattle.laws.specs.Kit.{sym, ◌∙◌, ⊎_elim, List, ℕ, min, arith, length, drop, set, drop_of_length-le, lt_or, Step}
use Rattle.laws.specs.Bytes.{written}
use Rattle.laws.specs.Bytes.Laws.{written_none, written_cons}
use Rattle.laws.specs.Slices.{written_past}

pub write_more : (v s : List ℕ) {i x : ℕ} {w : List ℕ} → written i (drop i v) s ≡ w → Step v i x → written (i + 1) (drop (i + 1) v) (set s i x) ≡ w
write_more v s {i} {x} e t = rw (← written_cons i x (drop (i + 1) v) s, ← t.rest) e

pub write_end : (v s : List ℕ) (i : ℕ) {w : List ℕ} → min (length s) (length v) ≤ i → written i (drop i v) s ≡ w → s ≡ w
write_end v s i h e =
    ⊎_elim (λ l. sym (written_past i (drop i v) s (omega arith)) ∙ e) (λ l. sym (written_none i s) ∙ (rw (drop_of_length-le v {i = i} (omega arith)) at e)) (lt_or (length s) (length v))

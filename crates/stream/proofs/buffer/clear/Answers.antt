-- What is set to 0 stands between what was before and behind it.
use Rattle.std.specs.Prelude.{◌≡◌, ◌++◌, ◌+◌, ◌-◌, ◌≤◌, ℕ}
use Rattle.laws.specs.Kit.{arith, sym, ◌∙◌, append_assoc, List, length, take, drop, replicate, length-take, length-drop, drop-drop}
use Rattle.std.proofs.lemmas.List.{length-replicate}
use Rattle.laws.specs.Bytes.{written}
use Rattle.laws.specs.Bytes.Laws.{written_none, written_take_drop}
use Rattle.stream.proofs.buffer.clear.Goals as goal

-- n bytes of b, from o on, lent and back as zeros
filled : (o n : ℕ) (b y : List ℕ) → o + n ≤ length b → y ≡ replicate (length (take n (drop o b))) 0
    → take o b ++ (y ++ drop n (drop o b)) ≡ written o (replicate n 0) b
filled o n b y h e =
    let k : length (take n (drop o b)) ≡ n = simp (length-take, length-drop) (omega arith) in
    let w : length (replicate {A = ℕ} n 0) ≡ n = length-replicate n 0 in
    rw (e, k, drop-drop n o b) (sym (append_assoc (take o b) (replicate n 0) (drop (o + n) b)) ∙ sym (rw w at (written_take_drop o (replicate n 0) b (omega arith))))

pub returns-then-from-end : goal.returns-then-from-end
returns-then-from-end c =
    let a = c.args in
    filled a.from (a.end - a.from) a.buffer.now c.fill.new.self (omega arith) (c.fill.ensures.after (λ y e. e))

pub returns-else-from-end : goal.returns-else-from-end
returns-else-from-end c =
    let a = c.args in
    let z : a.end - a.from ≡ 0 = omega arith in
    rw z (sym (written_none a.from a.buffer.now))

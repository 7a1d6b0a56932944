-- Turns of the loops over bytes: the check so far and the bytes that are left still give the whole check.
use Rattle.std.specs.Prelude.{◌≡◌, ◌+◌, ◌≤◌}
use Rattle.laws.specs.Kit.{sym, ◌∙◌, List, ℕ, suc, arith, length, take, drop, get_or, drop-cons, take-take, is}
use Rattle.laws.specs.Bytes.{part, number}
use Rattle.laws.specs.Bytes.Laws.{part_none, part_add, number_part}
use Rattle.paper.specs.Check.{check_step, check_from, check_of, check_right}
use Rattle.facts.specs.Check.{check_from_append, check_from_part}

-- four bytes of a list
pub four_at : (c i : ℕ) (s : List ℕ) {r : ℕ} → i + 4 ≤ length s
    → r ≡ check_step (check_step (check_step (check_step c (get_or s i 0)) (get_or s (i + 1) 0)) (get_or s (i + 2) 0)) (get_or s (i + 3) 0) → r ≡ check_from c (part i 4 s)
unfolding part check_from
four_at c i s h e =
    let e1 : i + 1 ≡ suc i = omega arith in
    let e2 : i + 2 ≡ suc (suc i) = omega arith in
    let e3 : i + 3 ≡ suc (suc (suc i)) = omega arith in
    rw (drop-cons s i 0 (omega arith), drop-cons s (suc i) 0 (omega arith), drop-cons s (suc (suc i)) 0 (omega arith), drop-cons s (suc (suc (suc i))) 0 (omega arith))
    (rw (e1, e2, e3) at e)

-- a turn of a loop: what is left to take in shrinks by n bytes
pub turn : (c i n : ℕ) (s : List ℕ) {e t : ℕ} → e ≡ check_from c (part i n s) → check_from c (drop i s) ≡ t → check_from e (drop (i + n) s) ≡ t
turn c i n s q p = rw q (sym (check_from_part c i n s) ∙ p)

-- ---- lanes side by side: a lane's check so far is that of the i bytes from its start on

pub lane_start : (o : ℕ) (s : List ℕ) → 0 ≡ check_from 0 (part o 0 s)
unfolding check_from
lane_start o s = rw (part_none o s)

pub lane_more : (o i : ℕ) (s : List ℕ) {at k r : ℕ} → at ≡ o + i → k ≡ check_from 0 (part o i s) → r ≡ check_from k (part at 4 s) → r ≡ check_from 0 (part o (i + 4) s)
lane_more o i s q e f = rw (f, e, q, part_add o i 4 s) (sym (check_from_append 0 (part o i s) (part (o + i) 4 s)))

part_front : (o m n : ℕ) (s : List ℕ) → m ≤ n → take m (part o n s) ≡ part o m s
unfolding part
part_front o m n s h = take-take m n (drop o s) h

-- its block's check, all of it taken
pub lane_right : (o i : ℕ) (s : List ℕ) {n k : ℕ} → i ≡ 508 → n ≡ number 4 (o + 508) s → k ≡ check_from 0 (part o i s) → is n k ≡ check_right (part o 512 s)
unfolding check_right check_of
lane_right o i s q e f = rw (e, f, q, number_part 4 o 512 508 s (omega arith), part_front o 508 512 s (omega arith))

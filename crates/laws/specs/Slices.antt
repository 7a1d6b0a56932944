-- Laws of a slice's parts as code lends them: `&s[o..]` is take (length s - o) (drop o s), `&s[o..o + n]` is take (o + n - o) (drop o s).
use Rattle.std.specs.Prelude.{◌≡◌, ◌∷◌, ◌++◌, ◌+◌, ◌-◌, ◌≤◌}
use Rattle.laws.specs.Base.{refl, sym, ap, ◌∙◌, Bool, List, [], append-nil, ℕ, suc, add-sub_cancel_left, add-zero, arith, length, take, drop, drop_of_length-le, length-drop, take-append-drop, drop-drop, set_out, take_all, take-nil}
use Rattle.laws.specs.Tests.{◌and◌}
use Rattle.laws.specs.Lists.{same}
use Rattle.laws.specs.Lists.Same.{same_split}
use Rattle.laws.specs.Bytes.{part, written, value, number}
use Rattle.laws.specs.Bytes.Laws.{part_drop, part_rest, take_written, drop_written_inner}

-- ---- the part from an offset to the end

pub rest_slice : (o : ℕ) (b : List ℕ) → take (length b - o) (drop o b) ≡ drop o b
rest_slice o b = take_all (length b - o) (drop o b) (rw (length-drop o b) (omega arith))

pub part_slice_short : (o n : ℕ) (b : List ℕ) → length b - o ≤ n → take (length b - o) (drop o b) ≡ part o n b
part_slice_short o n b h = rest_slice o b ∙ sym (part_rest o n b (omega arith))

-- it is read and written at its own start as the whole is at the offset
pub number_slice : (w o : ℕ) (b : List ℕ) → number w 0 (take (length b - o) (drop o b)) ≡ number w o b
unfolding number
number_slice w o b = ap (number w 0) (rest_slice o b) ∙ ap value (part_drop 0 w o b) ∙ ap (λ k. number w k b) (add-zero o)

-- what is written into it, put back behind what stands before it
pub written_slice : (o : ℕ) (v b : List ℕ) {y : List ℕ} → y ≡ written 0 v (take (length b - o) (drop o b)) → take o b ++ (y ++ drop (length b - o) (drop o b)) ≡ written o v b
written_slice o v b {y} e =
    let n : length (drop o b) ≤ length b - o = rw (length-drop o b) (omega arith) in
    let p : y ≡ drop o (written o v b) = e ∙ ap (written 0 v) (rest_slice o b) ∙ sym (drop_written_inner o 0 v b) ∙ ap (λ k. drop o (written k v b)) (add-zero o) in
    rw (drop_of_length-le (drop o b) n, append-nil y, p, ← take_written o o v b (omega arith)) (take-append-drop o (written o v b))

-- ---- nothing is read or written past the end

pub part_past : (o n : ℕ) (b : List ℕ) → length b ≤ o → part o n b ≡ []
unfolding part
part_past o n b h = rw (drop_of_length-le b h) (take-nil n)

pub number_past : (w o : ℕ) (b : List ℕ) → length b ≤ o → number w o b ≡ 0
unfolding number value
number_past w o b h = rw (part_past o w b h)

pub written_past : (o : ℕ) (v b : List ℕ) → length b ≤ o → written o v b ≡ b
unfolding written
written_past o [] b h = refl
written_past o (x ∷ v) b h = ap (written (suc o) v) (set_out b o x h) ∙ written_past (suc o) v b (omega arith)

-- ---- the part between two offsets

pub part_slice : (o e n : ℕ) (b : List ℕ) → e ≡ o + n → take (e - o) (drop o b) ≡ part o n b
unfolding part
part_slice o e n b h = let z : e - o ≡ n = omega arith in rw z

-- two lists compared from o on: the next n, and what follows
pub same_slice : (o n : ℕ) (a b : List ℕ) {t : Bool} → t ≡ same (take (o + n - o) (drop o a)) (take (o + n - o) (drop o b)) → same (drop o a) (drop o b) ≡ (t and same (drop (o + n) a) (drop (o + n) b))
same_slice o n a b e = rw (e, add-sub_cancel_left, ← drop-drop n o a, ← drop-drop n o b) (same_split n (drop o a) (drop o b))

-- Laws of parts, of lists written over, and of numbers as bytes: what is read after what was written.
use Rattle.std.specs.Prelude.{◌≡◌, ◌∷◌, ◌++◌, ◌+◌, ◌-◌, ◌*◌, ◌/◌, ◌%◌, ◌^◌, ◌≤◌, ◌<◌}
use Rattle.laws.specs.Base.{refl, sym, ap, ◌∙◌, List, [], append_assoc, append-nil, ℕ, zero, suc, add-suc, add-zero, lt_of_lt_of_le, pow-le-pow_right, pow-suc, pow-zero, suc-add, zero-add, add-one, arith, length, take, drop, get_or, set, replicate, drop_of_length-le, length-drop, length-set, length-take, replicate-append-replicate, take-append-drop, drop-append-add, drop-append-le, drop_at, drop-drop, drop-set-add, drop-set-lt, length-sets, length-take-le, set-append_left, set_comm, sets, sets-eq, take-add, take_all, take-append-le, take_at, take-nil, take-set-le, take-set-lt, take-suc-set, take-take}
use Rattle.laws.specs.Lists.{All}
use Rattle.laws.specs.Lists.Each.{all_take, all_drop, drop_take}
use Rattle.laws.specs.Bytes.{part, written, value, little, number}

-- ---- a part

pub part_length_most : (o n : ℕ) (b : List ℕ) → length (part o n b) ≤ n
unfolding part
part_length_most o n b = simp (length-take, length-drop) (omega arith)

pub part_length : (o n : ℕ) (b : List ℕ) → o + n ≤ length b → length (part o n b) ≡ n
unfolding part
part_length o n b h = length-take-le n (drop o b) (omega (arith, length-drop o b))

pub part_none : (o : ℕ) (b : List ℕ) → part o 0 b ≡ []
unfolding part
part_none o b = refl

pub part_all : (n : ℕ) (b : List ℕ) → length b ≤ n → part 0 n b ≡ b
unfolding part
part_all n b h = take_all n b h

-- a part that goes to the end
pub part_rest : (o n : ℕ) (b : List ℕ) → length b ≤ o + n → part o n b ≡ drop o b
unfolding part
part_rest o n b h = take_all n (drop o b) (rw (length-drop o b) (omega arith))

-- a part of a list's first m, of its rest, of a part
pub part_take : (o n m : ℕ) (b : List ℕ) → o + n ≤ m → part o n (take m b) ≡ part o n b
unfolding part
part_take o n m b h =
    let e : m ≡ o + (m - o) = omega arith in
    ap (λ k. take n (drop o (take k b))) e ∙ ap (take n) (drop_take o (m - o) b) ∙ take-take n (m - o) (drop o b) (omega arith)

pub part_drop : (o n p : ℕ) (b : List ℕ) → part o n (drop p b) ≡ part (p + o) n b
unfolding part
part_drop o n p b = ap (take n) (drop-drop o p b)

pub part_part : (o n p m : ℕ) (b : List ℕ) → p + m ≤ n → part p m (part o n b) ≡ part (o + p) m b
unfolding part
part_part o n p m b h = part_take p m n (drop o b) h ∙ part_drop p m o b

-- two parts that meet
pub part_add : (o m n : ℕ) (b : List ℕ) → part o (m + n) b ≡ part o m b ++ part (o + m) n b
unfolding part
part_add o m n b = take-add m n (drop o b) ∙ ap (λ l. take m (drop o b) ++ take n l) (drop-drop m o b)

pub part_append_left : (o n : ℕ) (a b : List ℕ) → o + n ≤ length a → part o n (a ++ b) ≡ part o n a
unfolding part
part_append_left o n a b h = ap (take n) (drop-append-le o a b (omega arith)) ∙ take-append-le n (drop o a) b (rw (length-drop o a) (omega arith))

pub part_append_right : (o n : ℕ) (a b : List ℕ) → part (length a + o) n (a ++ b) ≡ part o n b
unfolding part
part_append_right o n a b = ap (take n) (drop-append-add a b o)

pub part_here : (a b : List ℕ) (n : ℕ) → length a ≡ n → part 0 n (a ++ b) ≡ a
unfolding part
part_here a b n e = take_at a b n e

pub part_over : (a b : List ℕ) (k o n : ℕ) → length a ≡ k → part (k + o) n (a ++ b) ≡ part o n b
part_over a b k o n e = rw (sym e) (part_append_right o n a b)

pub all_part : (P : ℕ → Type 0) (o n : ℕ) (b : List ℕ) → All P b → All P (part o n b)
unfolding part
all_part P o n b h = all_take P n (drop o b) (all_drop P o b h)

-- ---- written over

pub written_none : (o : ℕ) (b : List ℕ) → written o [] b ≡ b
unfolding written
written_none o b = refl

-- the first element written before the others, and the last
pub written_cons : (o x : ℕ) (v b : List ℕ) → written o (x ∷ v) b ≡ written (o + 1) v (set b o x)
unfolding written
written_cons o x v b = rw add-one

pub written_last : (o : ℕ) (v : List ℕ) (x : ℕ) (b : List ℕ) → written o v (set b (o + length v) x) ≡ written o (v ++ x ∷ []) b
unfolding written
written_last o [] x b = rw add-zero
written_last o (a ∷ v) x b =
    let n : o + suc (length v) ≡ suc o + length v = omega arith in
    rw (n, ← set_comm b o (suc o + length v) a x (λ e. omega arith)) (written_last (suc o) v x (set b o a))

-- ---- written over what was written: elsewhere, in any order; in the same place, the last one stays

set_set : (b : List ℕ) (i x y : ℕ) → set (set b i x) i y ≡ set b i y
set_set [] i x y = refl
set_set (z ∷ b) zero x y = refl
set_set (z ∷ b) (suc i) x y = ap (λ w. z ∷ w) (set_set b i x y)

set_written : (o x p : ℕ) (v b : List ℕ) → o < p → set (written p v b) o x ≡ written p v (set b o x)
set_written o x p [] b h = ap (λ w. set w o x) (written_none p b) ∙ sym (written_none p (set b o x))
set_written o x p (y ∷ v) b h =
    ap (λ w. set w o x) (written_cons p y v b) ∙ set_written o x (p + 1) v (set b p y) (omega arith)
    ∙ ap (written (p + 1) v) (sym (set_comm b o p x y (λ e. omega arith))) ∙ sym (written_cons p y v (set b o x))

pub written_elsewhere : (o p : ℕ) (u v b : List ℕ) → o + length u ≤ p → written o u (written p v b) ≡ written p v (written o u b)
written_elsewhere o p [] v b h = written_none o (written p v b) ∙ ap (written p v) (sym (written_none o b))
written_elsewhere o p (x ∷ u) v b h =
    written_cons o x u (written p v b) ∙ ap (written (o + 1) u) (set_written o x p v b (omega arith))
    ∙ written_elsewhere (o + 1) p u v (set b o x) (omega arith) ∙ ap (written p v) (sym (written_cons o x u b))

pub written_again : (o : ℕ) (u v b : List ℕ) → length u ≡ length v → written o u (written o v b) ≡ written o u b
written_again o [] [] b e = written_none o (written o [] b) ∙ written_none o b ∙ sym (written_none o b)
written_again o [] (y ∷ v) b e = absurd (omega arith)
written_again o (x ∷ u) [] b e = absurd (omega arith)
written_again o (x ∷ u) (y ∷ v) b e =
    ap (written o (x ∷ u)) (written_cons o y v b) ∙ written_cons o x u (written (o + 1) v (set b o y))
    ∙ ap (written (o + 1) u) (set_written o x (o + 1) v (set b o y) (omega arith))
    ∙ written_again (o + 1) u v (set (set b o y) o x) (omega arith) ∙ ap (written (o + 1) u) (set_set b o y x) ∙ sym (written_cons o x u b)

pub written_length : (o : ℕ) (v b : List ℕ) → length (written o v b) ≡ length b
unfolding written
written_length o v b = length-sets b o v

pub written_take_drop : (o : ℕ) (v b : List ℕ) → o + length v ≤ length b → written o v b ≡ take o b ++ v ++ drop (o + length v) b
unfolding written
written_take_drop o v b h = sets-eq v b o h

-- a part written again where it stands
pub three_parts : (o n : ℕ) (b : List ℕ) → take o b ++ part o n b ++ drop (o + n) b ≡ b
unfolding part
three_parts o n b =
    append_assoc (take o b) (take n (drop o b)) (drop (o + n) b) ∙ ap (λ z. take o b ++ (take n (drop o b) ++ z)) (sym (drop-drop n o b))
    ∙ ap (λ z. take o b ++ z) (take-append-drop n (drop o b)) ∙ take-append-drop o b

pub written_part : (o n : ℕ) (b : List ℕ) → o + n ≤ length b → written o (part o n b) b ≡ b
written_part o n b h =
    let l : length (part o n b) ≡ n = part_length o n b h in
    written_take_drop o (part o n b) b (omega arith) ∙ ap (λ k. take o b ++ part o n b ++ drop (o + k) b) l ∙ three_parts o n b

pub written_all : (v b : List ℕ) → length v ≡ length b → written 0 v b ≡ v
written_all v b e =
    let h : length b ≤ 0 + length v = omega arith in
    written_take_drop 0 v b (omega arith) ∙ ap (λ l. v ++ l) (drop_of_length-le b h) ∙ append-nil v

pub written_append : (o : ℕ) (u v b : List ℕ) → written o (u ++ v) b ≡ written (o + length u) v (written o u b)
unfolding written
written_append o [] v b = rw (add-zero o)
written_append o (x ∷ u) v b = let e : suc o + length u ≡ o + suc (length u) = omega arith in rw e at (written_append (suc o) u v (set b o x))

-- what lies before and behind is as it was
pub take_written : (n o : ℕ) (v b : List ℕ) → n ≤ o → take n (written o v b) ≡ take n b
unfolding written
take_written n o [] b h = refl
take_written n o (x ∷ v) b h = take_written n (suc o) v (set b o x) (omega arith) ∙ take-set-le n b o x h

pub drop_written : (n o : ℕ) (v b : List ℕ) → o + length v ≤ n → drop n (written o v b) ≡ drop n b
unfolding written
drop_written n o [] b h = refl
drop_written n o (x ∷ v) b h = drop_written n (suc o) v (set b o x) (omega arith) ∙ drop-set-lt n b o x (omega arith)

-- what is written inside the first n, and inside the rest
pub take_written_inner : (n o : ℕ) (v b : List ℕ) → o + length v ≤ n → take n (written o v b) ≡ written o v (take n b)
unfolding written
take_written_inner n o [] b h = refl
take_written_inner n o (x ∷ v) b h = take_written_inner n (suc o) v (set b o x) (omega arith) ∙ ap (λ l. sets l (suc o) v) (take-set-lt n b o x (omega arith))

pub drop_written_inner : (n o : ℕ) (v b : List ℕ) → drop n (written (n + o) v b) ≡ written o v (drop n b)
unfolding written
drop_written_inner n o [] b = refl
drop_written_inner n o (x ∷ v) b =
    ap (λ k. drop n (sets (set b (n + o) x) k v)) (sym (add-suc n o)) ∙ drop_written_inner n (suc o) v (set b (n + o) x) ∙ ap (λ l. sets l (suc o) v) (drop-set-add n b o x)

pub part_written_before : (o n p : ℕ) (v b : List ℕ) → o + n ≤ p → part o n (written p v b) ≡ part o n b
part_written_before o n p v b h = sym (part_take o n p (written p v b) h) ∙ ap (part o n) (take_written p p v b (omega arith)) ∙ part_take o n p b h

pub part_written_after : (o n p : ℕ) (v b : List ℕ) → p + length v ≤ o → part o n (written p v b) ≡ part o n b
unfolding part
part_written_after o n p v b h = ap (take n) (drop_written o p v b h)

pub part_written_same : (o : ℕ) (v b : List ℕ) → o + length v ≤ length b → part o (length v) (written o v b) ≡ v
unfolding part
part_written_same o v b h =
    let l : length (take o b) ≡ o = length-take-le o b (omega arith) in
    ap (λ x. take (length v) (drop o x)) (written_take_drop o v b h)
    ∙ ap (take (length v)) (ap (drop o) (append_assoc (take o b) v _) ∙ drop_at (take o b) (v ++ _) o l) ∙ take_at v _ (length v) refl

pub written_append_left : (o : ℕ) (v a b : List ℕ) → o + length v ≤ length a → written o v (a ++ b) ≡ written o v a ++ b
unfolding written
written_append_left o [] a b h = refl
written_append_left o (x ∷ v) a b h = ap (λ l. sets l (suc o) v) (set-append_left a b o x (omega arith)) ∙ written_append_left (suc o) v (set a o x) b (rw (length-set a o x) (omega arith))

pub written_append_right : (o : ℕ) (v a b : List ℕ) → written (length a + o) v (a ++ b) ≡ a ++ written o v b
unfolding written
written_append_right o [] a b = refl
written_append_right o (x ∷ v) a b =
    ap (λ k. sets (set (a ++ b) (length a + o) x) k v) (sym (add-suc (length a) o)) ∙ ap (λ l. sets l (length a + suc o) v) (by a) ∙ written_append_right (suc o) v a (set b o x)
  where
    by : (l : List ℕ) → set (l ++ b) (length l + o) x ≡ l ++ set b o x
    by [] = rw (zero-add o)
    by (y ∷ ys) = rw (suc-add (length ys) o) (ap (λ z. y ∷ z) (by ys))

pub written_here : (z r v : List ℕ) → length v ≡ length z → written 0 v (z ++ r) ≡ v ++ r
written_here z r v e = written_append_left 0 v z r (omega arith) ∙ ap (λ x. x ++ r) (written_all v z e)

pub written_over : (a b v : List ℕ) (k o : ℕ) → length a ≡ k → written (k + o) v (a ++ b) ≡ a ++ written o v b
written_over a b v k o e = rw (sym e) (written_append_right o v a b)

-- ---- bytes as numbers

pub little_length : (w x : ℕ) → length (little w x) ≡ w
unfolding little
little_length zero x = refl
little_length (suc w) x = ap suc (little_length w (x / 256))

pub value_little : (w x : ℕ) → x < 256 ^ w → value (little w x) ≡ x
unfolding value little
value_little zero x h = let z : x < 1 = rw (pow-zero 256) at h in omega arith
value_little (suc w) x h =
    let z : x < 256 ^ w * 256 = rw (pow-suc 256 w) at h in
    rw (value_little w (x / 256) (small x (256 ^ w) z)) (omega arith)
  where
    small : (y n : ℕ) → y < n * 256 → y / 256 < n
    small y n k = omega arith

-- the bytes of the number that bytes hold
pub little_value : (b : List ℕ) → All (λ x. x < 256) b → little (length b) (value b) ≡ b
unfolding little value
little_value [] h = refl
little_value (x ∷ b) h =
    let l : x < 256 = h.0 in
    let m : (x + 256 * value b) % 256 ≡ x = omega arith in
    let q : (x + 256 * value b) / 256 ≡ value b = omega arith in
    rw (m, q, little_value b h.1)

pub value_small : (l : List ℕ) → All (λ y. y < 256) l → value l < 256 ^ length l
unfolding value
value_small [] h = rw (pow-zero 256) (omega arith)
value_small (x ∷ l) h = rw (pow-suc 256 (length l)) (small x (value l) (256 ^ length l) h.0 (value_small l h.1))
  where
    small : (y v n : ℕ) → y < 256 → v < n → y + 256 * v < n * 256
    small y v n a b = omega arith

-- ---- a number of w bytes

pub number_none : (o : ℕ) (b : List ℕ) → number 0 o b ≡ 0
unfolding number part value
number_none o b = refl

-- its lowest byte, and the rest
pub number_more : (w o : ℕ) (b : List ℕ) → number (suc w) o b ≡ get_or b o 0 + 256 * number w (o + 1) b
unfolding number part value
number_more w o b = rw (add-one o) (by o b)
  where
    by : (p : ℕ) (l : List ℕ) → value (take (suc w) (drop p l)) ≡ get_or l p 0 + 256 * value (take w (drop (suc p) l))
    by zero [] = rw (take-nil w)
    by zero (x ∷ l) = refl
    by (suc p) [] = rw (take-nil w)
    by (suc p) (x ∷ l) = by p l

pub number_1 : (o : ℕ) (b : List ℕ) → number 1 o b ≡ get_or b o 0
number_1 o b = omega (arith, number_more 0 o b, number_none (o + 1) b)

pub number_2 : (o : ℕ) (b : List ℕ) → number 2 o b ≡ get_or b o 0 + 256 * get_or b (o + 1) 0
number_2 o b = omega (arith, number_more 1 o b, number_1 (o + 1) b)

pub number_4 : (o : ℕ) (b : List ℕ) → number 4 o b ≡ get_or b o 0 + 256 * get_or b (o + 1) 0 + 65536 * get_or b (o + 2) 0 + 16777216 * get_or b (o + 3) 0
number_4 o b =
    let e : o + 1 + 1 ≡ o + 2 = omega arith in
    let f : o + 2 + 1 ≡ o + 3 = omega arith in
    let p : number 2 (o + 2) b ≡ get_or b (o + 2) 0 + 256 * get_or b (o + 3) 0 = rw f at (number_2 (o + 2) b) in
    let q : number 3 (o + 1) b ≡ get_or b (o + 1) 0 + 256 * number 2 (o + 2) b = rw e at (number_more 2 (o + 1) b) in
    omega (arith, number_more 3 o b)

pub number_small : (w o : ℕ) (b : List ℕ) → All (λ y. y < 256) b → number w o b < 256 ^ w
unfolding number
number_small w o b h = lt_of_lt_of_le (value_small (part o w b) (all_part (λ y. y < 256) o w b h)) (pow-le-pow_right {n = 256} (omega arith) (part_length_most o w b))

pub number_part : (w o n p : ℕ) (b : List ℕ) → p + w ≤ n → number w p (part o n b) ≡ number w (o + p) b
unfolding number
number_part w o n p b h = ap value (part_part o n p w b h)

pub number_written : (w o x : ℕ) (b : List ℕ) → o + w ≤ length b → x < 256 ^ w → number w o (written o (little w x) b) ≡ x
unfolding number
number_written w o x b h f = rw (little_length w x) at (ap value (part_written_same o (little w x) b (rw (little_length w x) h))) ∙ value_little w x f

pub number_written_after : (w o p : ℕ) (v b : List ℕ) → p + length v ≤ o → number w o (written p v b) ≡ number w o b
unfolding number
number_written_after w o p v b h = ap value (part_written_after o w p v b h)

-- ---- zeros

pub zeros_split : (k n : ℕ) → k ≤ n → replicate {A = ℕ} k 0 ++ replicate (n - k) 0 ≡ replicate n 0
zeros_split k n h = let e : k + (n - k) ≡ n = omega arith in replicate-append-replicate k (n - k) 0 ∙ ap (λ i. replicate i 0) e

-- a loop that sets bytes to 0: one more, and the end
pub zero_more : (s : List ℕ) (i : ℕ) → i < length s → take i s ≡ replicate i 0 → take (i + 1) (set s i 0) ≡ replicate (i + 1) 0
zero_more s i h e = ap (λ k. take k (set s i 0)) (add-one i) ∙ take-suc-set s i 0 h ∙ ap (λ x. x ++ 0 ∷ []) e ∙ replicate-append-replicate i 1 0

pub zero_end : (s : List ℕ) (i n : ℕ) → i ≡ n → length s ≤ i → take i s ≡ replicate i 0 → s ≡ replicate n 0
zero_end s i n q h e = sym (take_all i s h) ∙ e ∙ ap (λ k. replicate k 0) q

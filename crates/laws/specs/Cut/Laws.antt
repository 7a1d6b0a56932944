-- Laws of lists cut into blocks: block by block, cut and joined again, and written over in one block. They hold for any width, 0 too, but where one asks for more.
use Rattle.laws.specs.Base.{refl, sym, ap, ap₂, ◌∙◌, List, [], append_assoc, ℕ, zero, suc, add_comm, add-zero, div-eq_of_lt, div-zero, le_trans, lt-mul-div-succ, mul-add-div, mul-div_cancel_left, mul-div-le, mul-le-mul_left, mul-suc, mul-zero, sub-zero, zero-add, zero-div, zero-mul, add-one, arith, length, take, drop, get_or, set, drop_of_length-le, length-append, length-drop, take-append-drop, drop-append-le, drop_at, drop-cons, drop-drop, length-take-le, take-append-le, take_at, take-take}
use Rattle.std.specs.Prelude.{◌⊎◌, ◌≡◌, ◌∷◌, ◌++◌, ◌+◌, ◌-◌, ◌*◌, ◌/◌, ◌≤◌, ◌<◌}
use Rattle.std.proofs.Common.{inl, inr}
use Rattle.laws.specs.Tests.Laws.{lt_or}
use Rattle.laws.specs.Lists.{All}
use Rattle.laws.specs.Lists.Each.{all_take, all_drop, drop_take}
use Rattle.laws.specs.Bytes.{written}
use Rattle.laws.specs.Bytes.Laws.{written_length, written_all, take_written, drop_written, take_written_inner, drop_written_inner}
use Rattle.laws.specs.Cut.{chunks, cut, join, block}

-- ---- multiples of the width

-- i blocks, and block i, lie inside n elements
pub width_upto : (w n i : ℕ) → i ≤ n / w → w * i ≤ n
width_upto w n i h = le_trans (mul-le-mul_left w h) (mul-div-le n w)

pub width_inside : (w n i : ℕ) → i < n / w → w * i + w ≤ n
width_inside w n i h = rw (mul-suc w i) at (width_upto w n (suc i) h)

-- and back
pub width_blocks : (w n i : ℕ) → 0 < w → w * i + w ≤ n → i < n / w
width_blocks w n i p h = by (lt_or i (n / w))
  where
    far : n / w ≤ i → n < w * i + w
    far g =
        let a : n < w * (n / w + 1) = lt-mul-div-succ n p in
        let b : w * (n / w + 1) ≤ w * (i + 1) = mul-le-mul_left w (omega arith) in
        let c : w * (i + 1) ≡ w * i + w = rw (add-one i) (mul-suc w i) in
        omega arith

    by : (i < n / w) ⊎ (n / w ≤ i) → i < n / w
    by (inl g) = g
    by (inr g) = let k : n < w * i + w = far g in absurd (omega arith)

next : (w i : ℕ) → w * suc i ≡ w + w * i
next w i = mul-suc w i ∙ add_comm (w * i) w

quotient : (w n i : ℕ) → i ≤ n / w → w * i / w ≡ i
quotient zero n i h = let z : n / 0 ≡ 0 = div-zero n in rw (div-zero (0 * i)) (omega arith)
quotient (suc w) n i h = mul-div_cancel_left i (omega arith)

quotient_rest : (w n i : ℕ) → (n - w * i) / w ≡ n / w - i
quotient_rest zero n i = rw (div-zero (n - 0 * i), div-zero n) (omega arith)
quotient_rest (suc v) n i = by (lt_or (n / suc v) i)
  where
    by : (n / suc v < i) ⊎ (i ≤ n / suc v) → (n - suc v * i) / suc v ≡ n / suc v - i
    by (inl h) =
        let a : n < suc v * (n / suc v + 1) = lt-mul-div-succ n (omega arith) in
        let b : suc v * (n / suc v + 1) ≤ suc v * i = mul-le-mul_left (suc v) (omega arith) in
        let c : n - suc v * i ≡ 0 = omega arith in
        let d : n / suc v - i ≡ 0 = omega arith in
        rw (c, d) (zero-div (suc v))
    by (inr h) =
        let a : suc v * i ≤ n = width_upto (suc v) n i h in
        let b : suc v * i + (n - suc v * i) ≡ n = omega arith in
        let c : (suc v * i + (n - suc v * i)) / suc v ≡ i + (n - suc v * i) / suc v = mul-add-div {m = suc v} (omega arith) i (n - suc v * i) in
        let d : n / suc v ≡ i + (n - suc v * i) / suc v = sym (ap (λ k. k / suc v) b) ∙ c in
        omega arith

module _ {A : Type 0} where
  -- ---- the blocks

  pub chunks_length : (w k : ℕ) (b : List A) → length (chunks w k b) ≡ k
  unfolding chunks
  chunks_length w zero b = refl
  chunks_length w (suc k) b = ap suc (chunks_length w k (drop w b))

  pub cut_length : (w : ℕ) (b : List A) → length (cut w b) ≡ length b / w
  unfolding cut
  cut_length w b = chunks_length w (length b / w) b

  pub block_length : (w : ℕ) (b : List A) (i : ℕ) → i < length b / w → length (block w b i) ≡ w
  unfolding block
  block_length w b i h = let k : w * i + w ≤ length b = width_inside w (length b) i h in length-take-le w (drop (w * i) b) (rw (length-drop (w * i) b) (omega arith))

  pub block_zero : (w : ℕ) (b : List A) → block w b 0 ≡ take w b
  unfolding block
  block_zero w b = rw (mul-zero w)

  drop_chunks : (w i k : ℕ) (b : List A) → drop i (chunks w k b) ≡ chunks w (k - i) (drop (w * i) b)
  unfolding chunks
  drop_chunks w zero k b = rw (sub-zero k, mul-zero w)
  drop_chunks w (suc i) zero b = let q : 0 - suc i ≡ 0 = omega arith in rw q
  drop_chunks w (suc i) (suc k) b =
      let p : suc k - suc i ≡ k - i = omega arith in
      drop_chunks w i k (drop w b) ∙ rw (p, next w i, drop-drop (w * i) w b)

  take_chunks : (w i k : ℕ) (b : List A) → i ≤ k → take i (chunks w k b) ≡ chunks w i b
  unfolding chunks
  take_chunks w zero k b h = refl
  take_chunks w (suc i) zero b h = absurd (omega arith)
  take_chunks w (suc i) (suc k) b h = ap (λ (l : List (List A)). take w b ∷ l) (take_chunks w i k (drop w b) (omega arith))

  one : (w : ℕ) (b : List A) (i k m : ℕ) → k ≡ suc m → chunks w k (drop (w * i) b) ≡ block w b i ∷ chunks w m (drop (w * suc i) b)
  unfolding chunks block
  one w b i k m e = rw (e, drop-drop w (w * i) b, mul-suc w i)

  -- the law of loops: what is left at i is block i, then what is left at i + 1
  pub drop_cut : (w : ℕ) (b : List A) (i : ℕ) → i < length b / w → drop i (cut w b) ≡ block w b i ∷ drop (i + 1) (cut w b)
  unfolding cut
  drop_cut w b i h =
      rw (add-one i)
      (drop_chunks w i (length b / w) b ∙ one w b i (length b / w - i) (length b / w - suc i) (omega arith)
      ∙ ap (λ (l : List (List A)). block w b i ∷ l) (sym (drop_chunks w (suc i) (length b / w) b)))

  pub drop_cut_end : (w : ℕ) (b : List A) (i : ℕ) → length b / w ≤ i → drop i (cut w b) ≡ []
  drop_cut_end w b i h = drop_of_length-le (cut w b) {i = i} (rw (cut_length w b) h)

  pub cut_at : (w : ℕ) (b : List A) (i : ℕ) → i < length b / w → get_or (cut w b) i [] ≡ block w b i
  cut_at w b i h =
      let l : i < length (cut w b) = rw (cut_length w b) h in
      let q : get_or (cut w b) i [] ∷ drop (suc i) (cut w b) ≡ block w b i ∷ drop (i + 1) (cut w b) = sym (drop-cons (cut w b) i [] l) ∙ drop_cut w b i h in
      cc

  -- ---- the first blocks, and the rest

  chunks_take : (w i : ℕ) (b : List A) → chunks w i (take (w * i) b) ≡ chunks w i b
  unfolding chunks
  chunks_take w zero b = refl
  chunks_take w (suc i) b =
      rw (next w i) (ap₂ ◌∷◌ (take-take w (w + w * i) b (omega arith)) (ap (chunks w i) (drop_take w (w * i) b) ∙ chunks_take w i (drop w b)))

  pub take_cut : (w : ℕ) (b : List A) (i : ℕ) → i ≤ length b / w → cut w (take (w * i) b) ≡ take i (cut w b)
  unfolding cut
  take_cut w b i h =
      let q : length (take (w * i) b) / w ≡ i = rw (length-take-le (w * i) b (width_upto w (length b) i h)) (quotient w (length b) i h) in
      ap (λ k. chunks w k (take (w * i) b)) q ∙ chunks_take w i b ∙ sym (take_chunks w i (length b / w) b h)

  pub cut_drop : (w : ℕ) (b : List A) (i : ℕ) → cut w (drop (w * i) b) ≡ drop i (cut w b)
  unfolding cut
  cut_drop w b i = rw (length-drop (w * i) b, quotient_rest w (length b) i) (sym (drop_chunks w i (length b / w) b))

  pub cut_short : (w : ℕ) (b : List A) → length b < w → cut w b ≡ []
  unfolding cut chunks
  cut_short w b h = rw (div-eq_of_lt h)

  chunks_append : (w k m : ℕ) (x y : List A) → length x ≡ w * k → chunks w (k + m) (x ++ y) ≡ chunks w k x ++ chunks w m y
  unfolding chunks
  chunks_append w zero m [] y h = rw (zero-add m)
  chunks_append w zero m (v ∷ vs) y h = let z : w * 0 ≡ 0 = mul-zero w in absurd (omega arith)
  chunks_append w (suc k) m x y h =
      let e : suc k + m ≡ suc (k + m) = omega arith in
      let n : length x ≡ w + w * k = h ∙ next w k in
      rw e
      (ap₂ ◌∷◌ (take-append-le w x y (omega arith))
      (ap (chunks w (k + m)) (drop-append-le w x y (omega arith)) ∙ chunks_append w k m (drop w x) y (rw (length-drop w x) (omega arith))))

  cut_zero : (b : List A) → cut 0 b ≡ []
  unfolding cut chunks
  cut_zero b = rw (div-zero (length b))

  pub cut_append : (w k : ℕ) (x y : List A) → length x ≡ w * k → cut w (x ++ y) ≡ cut w x ++ cut w y
  unfolding cut
  cut_append zero k x y h = rw (cut_zero (x ++ y), cut_zero x, cut_zero y)
  cut_append (suc v) k x y h =
      let sum : length (x ++ y) / suc v ≡ k + length y / suc v = rw (length-append x y, h) (mul-add-div {m = suc v} (omega arith) k (length y)) in
      let front : length x / suc v ≡ k = rw h (mul-div_cancel_left k (omega arith)) in
      rw (sum, front) (chunks_append (suc v) k (length y / suc v) x y h)

  -- a list is its first k blocks and the rest
  pub cut_split : (w k : ℕ) (b : List A) → w * k ≤ length b → cut w b ≡ cut w (take (w * k) b) ++ cut w (drop (w * k) b)
  cut_split w k b h = ap (cut w) (sym (take-append-drop (w * k) b)) ∙ cut_append w k _ _ (length-take-le (w * k) b h)

  -- ---- blocks joined

  pub join_append : (l r : List (List A)) → join (l ++ r) ≡ join l ++ join r
  unfolding join
  join_append [] r = refl
  join_append (x ∷ xs) r = ap (λ z. x ++ z) (join_append xs r) ∙ sym (append_assoc x (join xs) (join r))

  pub join_length : (w : ℕ) (l : List (List A)) → All (λ x. length x ≡ w) l → length (join l) ≡ w * length l
  unfolding join
  join_length w [] h = sym (mul-zero w)
  join_length w (x ∷ xs) h = rw (length-append x (join xs), h.0, join_length w xs h.1) (sym (next w (length xs)))

  chunks_join : (w : ℕ) (l : List (List A)) → All (λ x. length x ≡ w) l → chunks w (length l) (join l) ≡ l
  unfolding chunks join
  chunks_join w [] h = refl
  chunks_join w (x ∷ xs) h = ap₂ ◌∷◌ (take_at x (join xs) w h.0) (ap (chunks w (length xs)) (drop_at x (join xs) w h.0) ∙ chunks_join w xs h.1)

  pub cut_join : (w : ℕ) (l : List (List A)) → 0 < w → All (λ x. length x ≡ w) l → cut w (join l) ≡ l
  unfolding cut
  cut_join w l p h = rw (join_length w l h, mul-div_cancel_left (length l) p) (chunks_join w l h)

  join_chunks : (w k : ℕ) (b : List A) → length b ≡ w * k → join (chunks w k b) ≡ b
  unfolding chunks join
  join_chunks w zero [] h = refl
  join_chunks w zero (x ∷ xs) h = let z : w * 0 ≡ 0 = mul-zero w in absurd (omega arith)
  join_chunks w (suc k) b h =
      let n : length b ≡ w + w * k = h ∙ next w k in
      ap (λ z. take w b ++ z) (join_chunks w k (drop w b) (rw (length-drop w b) (omega arith))) ∙ take-append-drop w b

  pub join_cut : (w k : ℕ) (b : List A) → length b ≡ w * k → join (cut w b) ≡ b
  unfolding cut join
  join_cut zero k [] h = ap join (cut_zero [])
  join_cut zero k (x ∷ xs) h = let z : 0 * k ≡ 0 = zero-mul k in absurd (omega arith)
  join_cut (suc v) k b h = rw (h, mul-div_cancel_left k {n = suc v} (omega arith)) (join_chunks (suc v) k b h)

  -- ---- properties of blocks

  chunks_widths : (w k : ℕ) (b : List A) → w * k ≤ length b → All (λ x. length x ≡ w) (chunks w k b)
  unfolding chunks
  chunks_widths w zero b h = tt
  chunks_widths w (suc k) b h =
      let n : w * suc k ≡ w + w * k = next w k in
      (length-take-le w b (omega arith), chunks_widths w k (drop w b) (rw (length-drop w b) (omega arith)))

  pub cut_widths : (w : ℕ) (b : List A) → All (λ x. length x ≡ w) (cut w b)
  unfolding cut
  cut_widths w b = chunks_widths w (length b / w) b (mul-div-le (length b) w)

  chunks_all : (P : A → Type 0) (w k : ℕ) (b : List A) → All P b → All (λ x. All P x) (chunks w k b)
  unfolding chunks
  chunks_all P w zero b h = tt
  chunks_all P w (suc k) b h = (all_take P w b h, chunks_all P w k (drop w b) (all_drop P w b h))

  pub cut_all : (P : A → Type 0) (w : ℕ) (b : List A) → All P b → All (λ x. All P x) (cut w b)
  unfolding cut
  cut_all P w b h = chunks_all P w (length b / w) b h

-- ---- bytes read and written in a block

chunks_written : (w k i o : ℕ) (v b : List ℕ) → o + length v ≤ w → i < k → chunks w k (written (w * i + o) v b) ≡ set (chunks w k b) i (written o v (block w b i))
unfolding chunks block
chunks_written w zero i o v b h l = absurd (omega arith)
chunks_written w (suc k) zero o v b h l =
    rw (mul-zero w, zero-add o) (ap₂ ◌∷◌ (take_written_inner w o v b h) (ap (chunks w k) (drop_written w o v b h)))
chunks_written w (suc k) (suc i) o v b h l =
    let e : w * suc i + o ≡ w + (w * i + o) = rw (next w i) (omega arith) in
    rw (e, next w i, ← drop-drop (w * i) w b)
    (ap₂ ◌∷◌ (take_written w (w + (w * i + o)) v b (omega arith)) (ap (chunks w k) (drop_written_inner w (w * i + o) v b) ∙ chunks_written w k i o v (drop w b) h (omega arith)))

-- bytes v at offset o of block i
pub cut_written : (w i o : ℕ) (v b : List ℕ) → o + length v ≤ w → i < length b / w → cut w (written (w * i + o) v b) ≡ set (cut w b) i (written o v (block w b i))
unfolding cut
cut_written w i o v b h l = rw (written_length (w * i + o) v b) (chunks_written w (length b / w) i o v b h l)

-- a whole block
pub cut_put : (w i : ℕ) (y b : List ℕ) → length y ≡ w → i < length b / w → cut w (written (w * i) y b) ≡ set (cut w b) i y
cut_put w i y b e h =
    ap (λ n. cut w (written n y b)) (sym (add-zero (w * i))) ∙ cut_written w i 0 y b (omega arith) h
    ∙ ap (set (cut w b) i) (written_all y (block w b i) (e ∙ sym (block_length w b i h)))

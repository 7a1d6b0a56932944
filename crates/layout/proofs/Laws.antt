-- Fields written byte by byte and number by number: what is left to write, over what is written, gives the whole.
use Rattle.std.specs.Prelude.{◌≡◌, ◌+◌, ◌-◌, ◌*◌, ◌/◌, ◌%◌, ◌≤◌, ◌<◌}
use Rattle.laws.specs.Kit.{refl, sym, ap, ◌∙◌, List, ℕ, zero, suc, add-zero, add-one, arith, length, drop, get_or, set, length-append, get_or-drop, drop-drop}
use Rattle.laws.specs.Bytes.{written, little, number}
use Rattle.laws.specs.Bytes.Laws.{number_1, written_none, written_cons, written_append, little_length}
use Rattle.paper.specs.Layout.{Bytes, Block}
use Rattle.layout.specs.Written.{padded, with_quantity, entries}

-- ---- two bytes hold a number's remainder by 65,536

low : (x : ℕ) → x % 65536 % 256 ≡ x % 256
low x = omega arith

high : (x : ℕ) → x % 65536 / 256 % 256 ≡ x / 256 % 256
high x = omega arith

pub little_2 : (x : ℕ) → little 2 (x % 65536) ≡ little 2 x
unfolding little
little_2 x = rw (low x, high x)

-- ---- a field of m bytes, of which i are written

module _ (at m : ℕ) (v : Bytes) where
  pub pad_start : (x : Bytes) → written (at + 0) (padded (m - 0) (drop 0 v)) x ≡ written at (padded m v) x
  pad_start x = let z : m - 0 ≡ m = omega arith in rw (add-zero at, z)

  pub pad_more : (x : Bytes) (i y : ℕ) {t : Bytes} → i < m → y ≡ number 1 i v → written (at + i) (padded (m - i) (drop i v)) x ≡ t
      → written (at + (i + 1)) (padded (m - (i + 1)) (drop (i + 1) v)) (set x (at + i) y) ≡ t
  unfolding padded
  pad_more x i y h e p =
      let z : m - i ≡ suc (m - (i + 1)) = omega arith in
      let a : at + (i + 1) ≡ at + i + 1 = omega arith in
      let g : y ≡ get_or (drop i v) 0 0 = e ∙ number_1 i v ∙ sym (get_or-drop i v 0 0 ∙ ap (λ k. get_or v k 0) (add-zero i)) in
      rw (a, g, ← drop-drop 1 i v, ← written_cons (at + i) (get_or (drop i v) 0 0) (padded (m - (i + 1)) (drop 1 (drop i v))) x) (rw z at p)

  pub pad_end : (x : Bytes) (i : ℕ) {t : Bytes} → m ≤ i → written (at + i) (padded (m - i) (drop i v)) x ≡ t → x ≡ t
  unfolding padded
  pad_end x i h p = let z : m - i ≡ 0 = omega arith in sym (written_none (at + i) x) ∙ (rw z at p)

-- ---- all hundred entries, of which k are written

pub entries_length : (v : List ℕ) (k : ℕ) → length (entries v k) ≡ 4 * k
unfolding entries
entries_length v zero = refl
entries_length v (suc k) = rw (length-append (entries v k) (little 4 (get_or v k 0 % 4294967296)), little_length 4 (get_or v k 0 % 4294967296)) (omega (arith, entries_length v k))

pub entries_none : (v : List ℕ) (b : Block) → b ≡ written 108 (entries v 0) b
unfolding entries
entries_none v b = sym (written_none 108 b)

pub entries_more : (k : ℕ) (v : List ℕ) (b : Block) {c d : Block} → c ≡ written 108 (entries v k) b → get_or v k 0 < 4294967296 → d ≡ with_quantity k (get_or v k 0) c → d ≡ written 108 (entries v (k + 1)) b
unfolding entries with_quantity
entries_more k v b e h f =
    let m : get_or v k 0 % 4294967296 ≡ get_or v k 0 = omega arith in
    f ∙ ap (with_quantity k (get_or v k 0)) e ∙ rw (add-one k, written_append 108 (entries v k) (little 4 (get_or v k 0 % 4294967296)) b, entries_length v k, m)

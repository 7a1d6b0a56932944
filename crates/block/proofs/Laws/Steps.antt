-- The step of the check by sums and a difference that wrap: 31 times a number goes through sums modulo 4,294,967,296.
use Rattle.std.specs.Prelude.{◌≡◌, ◌+◌, ◌-◌, ◌*◌, ◌/◌, ◌%◌, ◌<◌}
use Rattle.laws.specs.Kit.{sym, ap, ◌∙◌, ℕ, add-zero, mod-add-mod, add-mod-mod, add-mul, add-mul-mod_self_left, arith}
use Rattle.paper.specs.Check.{check_step}

-- twice k times x, by a sum that wraps
twice : (k x y z : ℕ) → y ≡ (k * x) % 4294967296 → z ≡ (y + y) % 4294967296 → z ≡ ((k + k) * x) % 4294967296
twice k x y z hy hz = simp (hz, hy, mod-add-mod, add-mod-mod, add-mul)

-- less x, by a difference that wraps
less : (x y r : ℕ) → y ≡ (32 * x) % 4294967296 → (r + x) % 4294967296 ≡ y → r < 4294967296 → r ≡ (31 * x) % 4294967296
less x y r e h l = omega arith

-- five doublings and a difference
pub doubled : (x r : ℕ) {x2 x4 x8 x16 x32 : ℕ} → x < 4294967296 → r < 4294967296 → x2 ≡ (x + x) % 4294967296 → x4 ≡ (x2 + x2) % 4294967296
    → x8 ≡ (x4 + x4) % 4294967296 → x16 ≡ (x8 + x8) % 4294967296 → x32 ≡ (x16 + x16) % 4294967296 → (r + x) % 4294967296 ≡ x32 → r ≡ (31 * x) % 4294967296
doubled x r {x2} {x4} {x8} {x16} {x32} f l h2 h4 h8 h16 h32 h =
    less x x32 r (twice 16 x x16 x32 (twice 8 x x8 x16 (twice 4 x x4 x8 (twice 2 x x2 x4 (twice 1 x x x2 (once x f) h2) h4) h8) h16) h32) h l
  where
    once : (y : ℕ) → y < 4294967296 → y ≡ (1 * y) % 4294967296
    once y g = omega arith

-- 31 times a number that wrapped
times : (n k : ℕ) → (31 * (n % 4294967296) + k) % 4294967296 ≡ (31 * n + k) % 4294967296
times n k =
    let e : 31 * n + k ≡ 31 * (n % 4294967296) + k + 4294967296 * (31 * (n / 4294967296)) = omega arith in
    sym (ap (λ m. m % 4294967296) e ∙ add-mul-mod_self_left (31 * (n % 4294967296) + k) 4294967296 (31 * (n / 4294967296)))

pub step : (c b : ℕ) → check_step c b ≡ (31 * c + b) % 4294967296
unfolding check_step
step c b = let z : 32 * c - c ≡ 31 * c = omega arith in rw z

-- a step by a product and a sum that wrap
pub stepped : (c b : ℕ) {t r : ℕ} → t ≡ (31 * c) % 4294967296 → r ≡ (t + b) % 4294967296 → r ≡ check_step c b
stepped c b e f = rw (f, e, step c b) (mod-add-mod (31 * c) 4294967296 b)

-- four steps from c are c, w, x, y, z times the powers of 31
pub four_steps : (c w x y z : ℕ) → check_step (check_step (check_step (check_step c w) x) y) z ≡ (923521 * c + (29791 * w + (961 * x + (31 * y + z)))) % 4294967296
four_steps c w x y z =
    let e : 31 * (31 * (31 * (31 * c + w) + x) + y) + z ≡ 923521 * c + (29791 * w + (961 * x + (31 * y + z))) = omega arith in
    rw (step c w) (rw (step ((31 * c + w) % 4294967296) x, times (31 * c + w) x)
    (rw (step ((31 * (31 * c + w) + x) % 4294967296) y, times (31 * (31 * c + w) + x) y)
    (rw (step ((31 * (31 * (31 * c + w) + x) + y) % 4294967296) z, times (31 * (31 * (31 * c + w) + x) + y) z) (ap (λ m. m % 4294967296) e))))

-- one more factor of 31, by a product that wraps
pub more : (k n : ℕ) {x y : ℕ} → x ≡ (k * n) % 4294967296 → y ≡ (31 * x) % 4294967296 → y ≡ (31 * k * n) % 4294967296
more k n {x} {y} e f =
    let z : 31 * (k * n) ≡ 31 * k * n = omega arith in
    f ∙ rw (e, ← z) (rw (add-zero (31 * (k * n % 4294967296)), add-zero (31 * (k * n))) at (times (k * n) 0))

-- sums that wrap
pub summed : (a b d z : ℕ) {p q s t u v r : ℕ} → p ≡ a % 4294967296 → q ≡ b % 4294967296 → s ≡ d % 4294967296 → t ≡ z % 4294967296 → u ≡ (s + t) % 4294967296
    → v ≡ (q + u) % 4294967296 → r ≡ (p + v) % 4294967296 → r ≡ (a + (b + (d + z))) % 4294967296
summed a b d z e f g h i j k = simp (k, j, i, e, f, g, h, mod-add-mod, add-mod-mod)
